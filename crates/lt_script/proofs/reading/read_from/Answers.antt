-- The words behind that of a sentence, up to its end or the first that is wrong.
use Rattle.std.proofs.Common.{◌≡◌, ◌<◌, ◌∙◌, ap, sym, refl, reverse, [], arith}
use Rattle.std.specs.Prelude.{vec_len}
use Rattle.std.proofs.lemmas.Bool.{eqb-true}
use Rattle.std.proofs.lemmas.List.{length-reverse}
use Rattle.lt_texts.specs.Lexemes.{lexeme}
use Rattle.lt_texts.specs.Texts.{here}
use Rattle.lt_script.specs.Machine.{meant, step_on}
use Rattle.lt_script.specs.Stops.{call_of}
use Rattle.lt_script.proofs.Comes.{Comes, came_first, comes_on, came_on, came_to, stops_at_token, stops_at_end, is_some}
use Rattle.lt_commands.specs.Views.{made_of}
use Rattle.lt_script.proofs.Directly.{noted, marked_on}
use Rattle.lt_script.proofs.Spanning.{to_here}
use Rattle.lt_script.proofs.reading.read_from.Goals as goal

pub returns-in-End-clause-wrong : goal.returns-in-End-clause-wrong
returns-in-End-clause-wrong c =
    stops_at_end (reverse c.args.symbols.items) [] (call_of c.args.head) c.args.lexer.now c.words.lexer (reverse c.words.stack.items) c.words.invariant.0
    c.args.end c.wrong_at.result c.words.invariant.1 c.in-End.ensures.token c.requires.end c.wrong_at.ensures

pub returns-then-not-branch-clause-wrong : goal.returns-then-not-branch-clause-wrong
returns-then-not-branch-clause-wrong c =
    let g = noted c.in_ok-take.field-0 (step_on (reverse c.words.stack.items) (meant c.in_ok-word.word)) (reverse c.take.new.stack.items) (made_of c.words.maker) (made_of c.take.new.made) c.words.invariant.0
    c.in_ok-take.ensures.takes c.words.invariant.2 in
    stops_at_token (reverse c.args.symbols.items) [] (call_of c.args.head) c.args.lexer.now c.words.lexer (reverse c.words.stack.items) (reverse c.take.new.stack.items)
    c.words.invariant.0 g.0 c.in-Token.token (meant c.in_ok-word.word) c.in_ok-take.field-0 c.refused_at.result
    c.words.invariant.1 c.in-Token.ensures.token (c.in_ok-word.ensures ∙ ap (lexeme c.in-Token.token.kind) c.in-Token.ensures.read.text)
    c.if-not-branch.true g.1 c.refused_at.ensures

pub returns-then-is_empty-clause-read : goal.returns-then-is_empty-clause-read
returns-then-is_empty-clause-read c =
    let g = noted c.in_ok-take.field-0 (step_on (reverse c.words.stack.items) (meant c.in_ok-word.word)) (reverse c.take.new.stack.items) (made_of c.words.maker) (made_of c.take.new.made) c.words.invariant.0
    c.in_ok-take.ensures.takes c.words.invariant.2 in
    let comes : Comes (reverse c.args.symbols.items) [] c.args.lexer.now c.next_token.new.self (reverse c.take.new.stack.items) g.0 =
    comes_on (reverse c.args.symbols.items) [] c.args.lexer.now c.words.lexer c.next_token.new.self (reverse c.words.stack.items) (reverse c.take.new.stack.items)
    c.words.invariant.0 g.0 c.in-Token.token (meant c.in_ok-word.word) c.in_ok-take.field-0
    c.words.invariant.1 c.in-Token.ensures.token c.in-Token.ensures.left (c.in_ok-word.ensures ∙ ap (lexeme c.in-Token.token.kind) c.in-Token.ensures.read.text)
    c.if-not-branch.false g.1 in
    let none : vec_len c.take.new.stack ≡ 0 = eqb-true (vec_len c.take.new.stack) 0 (sym c.if-is_empty.ensures) in
    let reads = came_to (reverse c.args.symbols.items) [] c.args.lexer.now c.next_token.new.self (reverse c.take.new.stack.items) g.0 comes
    (omega (arith, c.take.new.stack.ok, length-reverse c.take.new.stack.items)) in (
      g.0,
      (
        reads.0,
        reads.1,
        reads.2,
        marked_on (reverse c.args.symbols.items) [] c.args.lexer.now c.words.lexer (reverse c.words.stack.items) c.words.invariant.0 c.words.invariant.1
            c.in-Token.token (meant c.in_ok-word.word) c.words.places.items c.take.new.places.items c.words.invariant.3 c.in-Token.ensures.token
            (c.in_ok-take.ensures.marks c.if-not-branch.false),
      ),
      g.2 c.if-not-branch.false,
      to_here c.words.lexer c.in-Token.token (sym c.in-Token.ensures.token) ∙ ap here (sym c.in-Token.ensures.left),
    )

pub words-preserved : goal.words-preserved
words-preserved c =
    let g = noted c.in_ok-take.field-0 (step_on (reverse c.words.stack.items) (meant c.in_ok-word.word)) (reverse c.take.new.stack.items) (made_of c.words.maker) (made_of c.take.new.made) c.words.invariant.0
    c.in_ok-take.ensures.takes c.words.invariant.2 in
    let comes : Comes (reverse c.args.symbols.items) [] c.args.lexer.now c.next_token.new.self (reverse c.take.new.stack.items) g.0 =
    comes_on (reverse c.args.symbols.items) [] c.args.lexer.now c.words.lexer c.next_token.new.self (reverse c.words.stack.items) (reverse c.take.new.stack.items)
    c.words.invariant.0 g.0 c.in-Token.token (meant c.in_ok-word.word) c.in_ok-take.field-0
    c.words.invariant.1 c.in-Token.ensures.token c.in-Token.ensures.left (c.in_ok-word.ensures ∙ ap (lexeme c.in-Token.token.kind) c.in-Token.ensures.read.text)
    c.if-not-branch.false g.1 in
    let some : 0 < vec_len c.take.new.stack = is_some (vec_len c.take.new.stack) c.if-is_empty.ensures in (
      g.0,
      came_on (reverse c.args.symbols.items) [] c.args.lexer.now c.next_token.new.self (reverse c.take.new.stack.items) g.0 comes
          (omega (arith, c.take.new.stack.ok, length-reverse c.take.new.stack.items)),
      g.2 c.if-not-branch.false,
      marked_on (reverse c.args.symbols.items) [] c.args.lexer.now c.words.lexer (reverse c.words.stack.items) c.words.invariant.0 c.words.invariant.1
          c.in-Token.token (meant c.in_ok-word.word) c.words.places.items c.take.new.places.items c.words.invariant.3 c.in-Token.ensures.token
          (c.in_ok-take.ensures.marks c.if-not-branch.false),
    )

pub words-init : goal.words-init
words-init c = (
  [],
  came_first (reverse c.args.symbols.items) [] c.args.lexer.now (reverse c.args.symbols.items) [] refl refl c.requires.waits,
  c.new-maker.ensures,
  c.new-places.ensures.items,
)
