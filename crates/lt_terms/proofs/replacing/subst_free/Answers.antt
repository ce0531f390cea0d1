use Rattle.std.proofs.Common.{◌∙◌, ap, subst, sym, map, List, length}
use Rattle.lt_definitions.specs.Terms.{TermTree}
use Rattle.lt_definitions.specs.Binding.{replaced}
use Rattle.lt_terms.specs.Layout.{HasRoom, first}
use Rattle.lt_terms.proofs.LayoutLemmas.{step, whole, IsStep}
use Rattle.lt_terms.proofs.Replacements.{room-replaced}
use Rattle.lt_terms.proofs.replacing.subst_free.Goals as goal

pub put-requires : goal.put-requires
put-requires c =
    let now : IsStep c.nodes-node-items.result.now c.loop-node.node-index c.node-item.result =
    step _ c.args.t.now _ _ c.nodes-node-items.ensures c.loop-node-test.true c.node-item.is
    in subst (λ (b : List TermTree). HasRoom b c.node-item.result) (sym c.loop-node.invariant) (room-replaced c.args.name.now c.args.ty.now c.args.by.now _ _ now.room)

pub loop-node-preserved : goal.loop-node-preserved
loop-node-preserved c =
    let now : IsStep c.nodes-node-items.result.now c.loop-node.node-index c.node-item.result =
    step _ c.args.t.now _ _ c.nodes-node-items.ensures c.loop-node-test.true c.node-item.is
    in c.in_ok-builder.ensures _ c.loop-node.invariant ∙ ap (map (replaced c.args.name.now c.args.ty.now c.args.by.now)) (sym now.next)

pub finish-requires : goal.finish-requires
finish-requires c =
    ap length (c.loop-node.invariant ∙ ap (map (replaced c.args.name.now c.args.ty.now c.args.by.now)) (whole _ c.args.t.now _ c.nodes-node-items.ensures c.loop-node.auto.node-index-end c.loop-node-test.false))

pub returns : goal.returns
returns c =
    ap first (sym c.finish.ensures ∙ c.loop-node.invariant ∙ ap (map (replaced c.args.name.now c.args.ty.now c.args.by.now)) (whole _ c.args.t.now _ c.nodes-node-items.ensures c.loop-node.auto.node-index-end c.loop-node-test.false))
