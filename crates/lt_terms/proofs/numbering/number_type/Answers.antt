use Rattle.std.proofs.Common.{◌+◌, ◌++◌, drop}
use Rattle.lt_terms.proofs.NumberedNames.{all_names, moved, type-first, type-next, type-last}
use Rattle.lt_terms.proofs.numbering.number_type.Goals as goal

pub loop-node-init : goal.loop-node-init
loop-node-init c later all h = moved c.args.map _ _ all (type-first c.nodes-node-items.result.now c.args.ty.now later c.nodes-node-items.ensures) h

pub loop-node-preserved : goal.loop-node-preserved
loop-node-preserved c later all h =
    c.in_ok-map.ensures (all_names (drop (c.loop-node.node-index + 1) c.nodes-node-items.result.now) ++ later) all
    (moved c.loop-node.map _ _ all (type-next c.nodes-node-items.result.now c.loop-node.node-index c.node-item.result later c.loop-node-test.true c.node-item.is) (c.loop-node.invariant later all h))

pub returns : goal.returns
returns c later all h =
    moved c.loop-node.map _ _ all (type-last c.nodes-node-items.result.now c.loop-node.node-index later c.loop-node-test.false) (c.loop-node.invariant later all h)
