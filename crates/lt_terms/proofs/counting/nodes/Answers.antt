use Rattle.std.proofs.Common.{◌+◌, ◌-◌, ◌^◌, min, arith}
use Rattle.lt_definitions.specs.Terms as terms
use Rattle.lt_terms.proofs.NodeCounts.{first-count, next-count, last-count, capped}
use Rattle.lt_terms.proofs.counting.nodes.Goals as goal

pub loop-node-init : goal.loop-node-init
loop-node-init c = record { left = first-count (2 ^ 64 - 1) c.args.t.now c.nodes-node-items.result.now c.nodes-node-items.ensures; fits = omega arith }

pub loop-node-preserved : goal.loop-node-preserved
loop-node-preserved c = record {
  left = next-count (2 ^ 64 - 1) (min (terms.term_nodes c.args.t.now) (2 ^ 64 - 1)) c.loop-node.count c.node_count.result c.saturating_add-count.result c.nodes-node-items.result.now c.loop-node.node-index c.node-item.result
      c.loop-node-test.true c.node-item.is c.node_count.ensures c.saturating_add-count.ensures c.loop-node.invariant.left;
  fits = capped (2 ^ 64 - 1) (c.loop-node.count + c.node_count.result) c.saturating_add-count.result c.saturating_add-count.ensures;
}

pub returns : goal.returns
returns c =
    last-count (2 ^ 64 - 1) (min (terms.term_nodes c.args.t.now) (2 ^ 64 - 1)) c.loop-node.count c.nodes-node-items.result.now c.loop-node.node-index c.loop-node-test.false c.loop-node.invariant.fits c.loop-node.invariant.left
