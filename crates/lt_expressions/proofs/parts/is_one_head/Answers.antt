use Rattle.std.proofs.Common.{sym, ◌∙◌}
use Rattle.lt_definitions.proofs.SameNames.{name-true}
use Rattle.lt_expressions.proofs.PartLemmas.{list-true, true-list}
use Rattle.lt_expressions.proofs.parts.is_one_head.Goals as goal

pub returns-then-eq : goal.returns-then-eq
returns-then-eq c = (
  λ h. (name-true c.args.c.now c.args.d.now (sym c.eq.ensures ∙ c.if-eq.true), list-true c.args.ts.now c.args.us.now (sym c.eq-then-eq.ensures ∙ h)),
  λ h. c.eq-then-eq.ensures ∙ true-list c.args.ts.now c.args.us.now h.1,
)
