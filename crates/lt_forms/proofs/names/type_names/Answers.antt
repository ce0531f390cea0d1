use Rattle.std.proofs.Common.{◌∙◌}
use Rattle.lt_forms.proofs.NameLists.{names-first, names-next, names-last}
use Rattle.lt_forms.proofs.names.type_names.Goals as goal

pub loop-node-init : goal.loop-node-init
loop-node-init c = names-first c.nodes-node-items.result.now c.args.ty.now _ c.new-names.ensures.items c.nodes-node-items.ensures

pub loop-node-preserved : goal.loop-node-preserved
loop-node-preserved c =
    names-next c.nodes-node-items.result.now c.loop-node.node-index c.node-item.result c.loop-node.names.items _ _ c.loop-node-test.true c.node-item.is
    c.in_ok-push_variable.ensures c.loop-node.invariant

pub returns : goal.returns
returns c = c.from_vec.ensures ∙ names-last c.nodes-node-items.result.now c.loop-node.node-index c.loop-node.names.items _ c.loop-node-test.false c.loop-node.invariant
