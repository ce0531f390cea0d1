-- The place is told by what is ahead.
use Rattle.std.proofs.Common.{◌∙◌, ap, sym}
use Rattle.lt_texts.specs.Texts.{here}
use Rattle.lt_lex.proofs.Nexts.{place_told}
use Rattle.lt_lex.proofs.Lexer.place.Goals as goal

pub returns : goal.returns
returns c =
    sym (place_told c.self.inside.source.now c.self.inside.text.now c.self.inside.at c.self.inside.at
    c.self.invariant c.self.invariant.place)
    ∙ ap here c.self.view_is
