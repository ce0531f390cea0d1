use Rattle.std.proofs.Common.{◌∙◌, ap, subst, sym, map, List, length}
use Rattle.std.proofs.lemmas.Result.{IfOk-weaker}
use Rattle.lt_definitions.specs.Types.{TypeTree}
use Rattle.lt_types.specs.Layout.{HasRoom, first}
use Rattle.lt_definitions.specs.Types.{type_instance}
use Rattle.lt_types.proofs.LayoutLemmas.{step, whole, IsStep}
use Rattle.lt_types.proofs.MapLemmas.{room-type_instance}
use Rattle.lt_types.proofs.substitute.tsub.Goals as goal

here : (c : goal.After-node-item) → IsStep c.nodes-node-items.result.now c.loop-node.node-index c.node-item.result
here c = step _ c.args.ty.now _ _ c.nodes-node-items.ensures c.loop-node-test.true c.node-item.is

pub put-requires : goal.put-requires
put-requires c = subst (λ (b : List TypeTree). HasRoom b c.node-item.result) (sym c.loop-node.invariant) (room-type_instance c.args.by.now _ _ (here c).room)

pub loop-node-preserved : goal.loop-node-preserved
loop-node-preserved c =
    let now : IsStep c.nodes-node-items.result.now c.loop-node.node-index c.node-item.result =
    step _ c.args.ty.now _ _ c.nodes-node-items.ensures c.loop-node-test.true c.node-item.is
    in c.in_ok-builder.ensures _ c.loop-node.invariant ∙ ap (map (type_instance c.args.by.now)) (sym now.next)

pub finish-requires : goal.finish-requires
finish-requires c =
    ap length (c.loop-node.invariant ∙ ap (map (type_instance c.args.by.now)) (whole _ c.args.ty.now _ c.nodes-node-items.ensures c.loop-node.auto.node-index-end c.loop-node-test.false))

pub returns : goal.returns
returns c =
    IfOk-weaker c.finish.result _ _ (λ t e.
    ap first (sym e ∙ c.loop-node.invariant ∙ ap (map (type_instance c.args.by.now)) (whole _ c.args.ty.now _ c.nodes-node-items.ensures c.loop-node.auto.node-index-end c.loop-node-test.false)))
    c.finish.ensures
