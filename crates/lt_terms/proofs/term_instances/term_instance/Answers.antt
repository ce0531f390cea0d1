use Rattle.std.proofs.Common.{◌∙◌, ap, subst, sym, map, List, length}
use Rattle.lt_definitions.specs.Terms.{TermTree, term_instance}
use Rattle.lt_terms.specs.declared.term.TermNode.{TermNode}
use Rattle.lt_terms.specs.Layout.{HasRoom, first, grow}
use Rattle.lt_terms.proofs.LayoutLemmas.{step, whole, IsStep}
use Rattle.lt_terms.proofs.NodeInstances.{grow-instance, room-instance}
use Rattle.lt_terms.proofs.term_instances.term_instance.Goals as goal

pub node-requires : goal.node-requires
node-requires c =
    let now : IsStep c.nodes-node-items.result.now c.loop-node.node-index c.node-item.result =
    step _ c.args.t.now _ _ c.nodes-node-items.ensures c.loop-node-test.true c.node-item.is
    in subst (λ (q : List TermTree × TermNode). HasRoom q.0 q.1) (λ i. (sym c.loop-node.invariant i, sym c.in_ok-node_instance.ensures i)) (room-instance c.args.by.now _ _ now.room)

pub loop-node-preserved : goal.loop-node-preserved
loop-node-preserved c =
    let now : IsStep c.nodes-node-items.result.now c.loop-node.node-index c.node-item.result =
    step _ c.args.t.now _ _ c.nodes-node-items.ensures c.loop-node-test.true c.node-item.is
    in c.in_ok-builder.ensures ∙ (λ i. grow (c.loop-node.invariant i) (c.in_ok-node_instance.ensures i)) ∙ grow-instance c.args.by.now _ c.node-item.result ∙ ap (map (term_instance c.args.by.now)) (sym now.next)

pub finish-requires : goal.finish-requires
finish-requires c =
    ap length (c.loop-node.invariant ∙ ap (map (term_instance c.args.by.now)) (whole _ c.args.t.now _ c.nodes-node-items.ensures c.loop-node.auto.node-index-end c.loop-node-test.false))

pub returns : goal.returns
returns c =
    ap first (sym c.finish.ensures ∙ c.loop-node.invariant ∙ ap (map (term_instance c.args.by.now)) (whole _ c.args.t.now _ c.nodes-node-items.ensures c.loop-node.auto.node-index-end c.loop-node-test.false))
