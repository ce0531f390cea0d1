use Rattle.std.proofs.Common.{sym, ◌∙◌}
use Rattle.lt_definitions.proofs.SameNames.{type-true, true-type}
use Rattle.lt_expressions.proofs.parts.is_one_type.Goals as goal

pub returns : goal.returns
returns c = (
  λ h. type-true c.args.t.now c.args.u.now (sym c.eq.ensures ∙ h),
  λ h. c.eq.ensures ∙ true-type c.args.t.now c.args.u.now h,
)
