use Rattle.std.proofs.Common.{◌≡◌, ◌+◌, ◌-◌, ◌^◌, ◌≤◌, min, drop}
use Rattle.lt_definitions.specs.Terms as terms
use Rattle.lt_terms.proofs.NodeCounts.{nodes_in}
use Rattle.lt_terms.proofs.counting.nodes.Given as goal

abbrev pub invariant-loop-node : goal.invariant-loop-node
invariant-loop-node l = record {
  left : min (l.count + nodes_in (drop l.node-index l.node-items)) (2 ^ 64 - 1) ≡ min (terms.term_nodes l.t) (2 ^ 64 - 1);
  fits : l.count ≤ 2 ^ 64 - 1;
}
