use Rattle.std.proofs.Common.{◌∙◌, ap, true, false, ne_eqb, eq-eqb}
use Rattle.lt_texts.specs.Texts.{ending}
use Rattle.lt_lex.proofs.Nexts.{ending_told}
use Rattle.lt_lex.proofs.Lexer.ending.Goals as goal

pub returns-then-end-self : goal.returns-then-end-self
returns-then-end-self c =
    ending_told _ _ c.self.inside.at c.self.invariant true (eq-eqb _ _ c.if-end-self.true) ∙ ap ending c.self.view_is

pub returns-else-end-self : goal.returns-else-end-self
returns-else-end-self c =
    ending_told _ _ c.self.inside.at c.self.invariant false (ne_eqb _ _ c.if-end-self.false) ∙ ap ending c.self.view_is
