use Rattle.std.proofs.Common.{sym, ◌∙◌}
use Rattle.lt_definitions.proofs.SameNames.{type-true, true-type}
use Rattle.lt_store.proofs.same.same_type.Goals as goal

pub returns : goal.returns
returns c = (λ e. type-true c.args.left.now c.args.right.now (sym c.eq.ensures ∙ e), λ e. c.eq.ensures ∙ true-type c.args.left.now c.args.right.now e)
