use Rattle.lt_terms.proofs.NewNames.{new_binder-is-new}
use Rattle.lt_terms.proofs.closing.unused_name.Goals as goal

pub returns-then-has_bound : goal.returns-then-has_bound
returns-then-has_bound c = new_binder-is-new c.in_ok-new_binder.field-0 c.args.t.now c.in_ok-new_binder.ensures
