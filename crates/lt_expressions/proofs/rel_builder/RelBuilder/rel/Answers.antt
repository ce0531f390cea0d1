use Rattle.std.proofs.Common.{◌∙◌, ◌++◌, sym, ap, subst, append-nil, List}
use Rattle.lt_transport_definitions.specs.Relations.{Relation}
use Rattle.lt_expressions.specs.Layout.{HasRoom, grow}
use Rattle.lt_expressions.proofs.LayoutLemmas.{step, whole, room-under, grow-under, IsStep}
use Rattle.lt_expressions.proofs.rel_builder.RelBuilder.rel.Goals as goal

pub loop-node-init : goal.loop-node-init
loop-node-init c = sym (append-nil c.args.self)

pub node-requires : goal.node-requires
node-requires c =
    let now : IsStep c.nodes-node-items.result.now c.loop-node.node-index c.node-item.result =
    step _ c.args.rel.now _ _ c.nodes-node-items.ensures c.loop-node-test.true c.node-item.is
    in subst (λ (b : List Relation). HasRoom b c.node-item.result) (sym c.loop-node.invariant) (room-under c.args.self _ _ now.room)

pub loop-node-preserved : goal.loop-node-preserved
loop-node-preserved c =
    let now : IsStep c.nodes-node-items.result.now c.loop-node.node-index c.node-item.result =
    step _ c.args.rel.now _ _ c.nodes-node-items.ensures c.loop-node-test.true c.node-item.is
    in c.in_ok-builder.ensures ∙ ap (λ (b : List Relation). grow b c.node-item.result) c.loop-node.invariant ∙ grow-under c.args.self _ _ now.room ∙ ap (λ b. c.args.self ++ b) (sym now.next)

pub returns : goal.returns
returns c =
    c.loop-node.invariant ∙ ap (λ b. c.args.self ++ b) (whole _ c.args.rel.now _ c.nodes-node-items.ensures c.loop-node.auto.node-index-end c.loop-node-test.false)
