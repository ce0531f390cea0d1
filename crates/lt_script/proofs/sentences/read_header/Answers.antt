-- The header stands there, or the first place that is wrong.
use Rattle.std.proofs.Common.{◌∙◌, ap, sym, [], length}
use Rattle.lt_texts.specs.Lexemes.{lexeme}
use Rattle.lt_texts.specs.Texts.{Left}
use Rattle.lt_grammar.specs.declared.words.Head.TheVariants.{Header}
use Rattle.lt_script.specs.Machine.{meant, expected}
use Rattle.lt_script.specs.Openings.{opened}
use Rattle.lt_script.proofs.Comes.{after_source}
use Rattle.lt_script.proofs.ScriptLemmas.{read_source, header_read, header_stopped, other_header, end_header, byte_header, char_header}
use Rattle.lt_script.proofs.Spanning.{unmarked}
use Rattle.lt_script.proofs.sentences.read_header.Goals as goal

pub returns-in-End-clause-wrong : goal.returns-in-End-clause-wrong
returns-in-End-clause-wrong c = λ commands. end_header (opened c.args.opening.now commands) c.args.lexer.now c.args.end c.in-End.ensures.token c.requires

pub returns-in-BadByte-clause-wrong : goal.returns-in-BadByte-clause-wrong
returns-in-BadByte-clause-wrong c = λ commands. byte_header (opened c.args.opening.now commands) c.args.lexer.now c.in-BadByte.at c.in-BadByte.ensures.token

pub returns-in-BadChar-clause-wrong : goal.returns-in-BadChar-clause-wrong
returns-in-BadChar-clause-wrong c = λ commands. char_header (opened c.args.opening.now commands) c.args.lexer.now c.in-BadChar.at c.in-BadChar.ensures.token

pub returns-then-not-is_opening-clause-wrong : goal.returns-then-not-is_opening-clause-wrong
returns-then-not-is_opening-clause-wrong c = λ commands.
    other_header (opened c.args.opening.now commands) c.args.lexer.now c.in-Token.token (meant c.in_ok-word.word) c.in-Token.ensures.token (c.in_ok-word.ensures ∙ ap (lexeme c.in-Token.token.kind) c.in-Token.ensures.read.text) (sym c.is_opening.ensures ∙ c.if-not-is_opening.true)

pub read-requires : goal.read-requires
read-requires c = c.requires ∙ sym (ap (λ (x : Left). length x.source) c.in-Token.ensures.left ∙ ap length (after_source c.args.lexer.now))

pub returns-in-Ok-clause-header : goal.returns-in-Ok-clause-header
returns-in-Ok-clause-header c = λ commands.
    header_read (opened c.args.opening.now commands) c.args.lexer.now c.next_token.new.self c.read.new.lexer c.in-Token.token (meant c.in_ok-word.word) c.in-Ok.ensures.read.0 c.in-Token.ensures.token c.in-Token.ensures.left (c.in_ok-word.ensures ∙ ap (lexeme c.in-Token.token.kind) c.in-Token.ensures.read.text)
    (sym c.is_opening.ensures ∙ c.if-not-is_opening.false)
    (unmarked (expected c.args.opening.now.number Header) [] c.in-Ok.ensures.read.0 c.next_token.new.self c.read.new.lexer c.in-Ok._behind.places.items c.in-Ok.ensures.read.1)

pub returns-in-Ok-clause-source : goal.returns-in-Ok-clause-source
returns-in-Ok-clause-source c =
    c.requires ∙ sym (ap (λ (x : Left). length x.source) c.in-Token.ensures.left ∙ ap length (after_source c.args.lexer.now))
    ∙ sym (ap length (read_source (expected c.args.opening.now.number Header) [] c.in-Ok.ensures.read.0 c.next_token.new.self c.read.new.lexer
    (unmarked (expected c.args.opening.now.number Header) [] c.in-Ok.ensures.read.0 c.next_token.new.self c.read.new.lexer c.in-Ok._behind.places.items c.in-Ok.ensures.read.1)))

pub returns-in-Err-clause-wrong : goal.returns-in-Err-clause-wrong
returns-in-Err-clause-wrong c = λ commands.
    header_stopped (opened c.args.opening.now commands) c.args.lexer.now c.next_token.new.self c.in-Token.token (meant c.in_ok-word.word) c.in-Err.error c.in-Token.ensures.token c.in-Token.ensures.left (c.in_ok-word.ensures ∙ ap (lexeme c.in-Token.token.kind) c.in-Token.ensures.read.text)
    (sym c.is_opening.ensures ∙ c.if-not-is_opening.false) c.in-Err.ensures.wrong
