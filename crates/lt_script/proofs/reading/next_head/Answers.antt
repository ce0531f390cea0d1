-- What begins there is told by the word that the token is.
use Rattle.std.proofs.Common.{◌∙◌, ap}
use Rattle.lt_texts.specs.Lexemes.{lexeme}
use Rattle.lt_script.specs.Machine.{meant}
use Rattle.lt_script.proofs.Comes.{says_next}
use Rattle.lt_script.specs.Openings.{form_of}
use Rattle.lt_script.proofs.reading.next_head.Goals as goal

pub returns : goal.returns
returns c = record {
  next = says_next (form_of c.args.opening.now c.args.allowed) c.args.lexer.now c.next_token.new.self c.in-Token.token (meant c.in_ok-word.word) c.head_at.result
      c.in-Token.ensures.token c.in-Token.ensures.left (c.in_ok-word.ensures ∙ ap (lexeme c.in-Token.token.kind) c.in-Token.ensures.read.text) c.head_at.ensures;
}
