use Rattle.std.proofs.Common.{◌≡◌, take, map}
use Rattle.lt_hol.specs.Outcomes.{at_binder}
use Rattle.lt_hol.proofs.binder_types.bound_types.Given as goal

abbrev pub invariant-loop-binder : goal.invariant-loop-binder
invariant-loop-binder l = l.hints.items ≡ map (at_binder l.types.items) (take l.binder-index l.binder-items)
