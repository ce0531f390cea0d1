use Rattle.std.proofs.Common.{◌≡◌, replicate, None}
use Rattle.lt_terms.proofs.bound_names.no_binders.Given as goal

abbrev pub invariant-loop : goal.invariant-loop
invariant-loop l = l.found.items ≡ replicate l.counter None
