use Rattle.std.proofs.Common.{◌≡◌, drop}
use Rattle.std.specs.List.{list_any}
use Rattle.lt_terms.specs.BoundNames.{has_bound_name, is_bound_name}
use Rattle.lt_terms.proofs.bound_names.has_bound_name.Given as goal

abbrev pub invariant-loop-node : goal.invariant-loop-node
invariant-loop-node l = has_bound_name l.t ≡ list_any is_bound_name (drop l.node-index l.node-items)
