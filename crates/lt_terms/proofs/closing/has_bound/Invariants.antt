use Rattle.std.proofs.Common.{◌≡◌, drop}
use Rattle.std.specs.List.{list_any}
use Rattle.lt_terms.specs.NodeNames.{has_bound, is_bound_at}
use Rattle.lt_terms.proofs.closing.has_bound.Given as goal

abbrev pub invariant-loop-node : goal.invariant-loop-node
invariant-loop-node l = has_bound l.name l.t ≡ list_any (is_bound_at l.name) (drop l.node-index l.node-items)
