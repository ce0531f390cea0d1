use Rattle.std.proofs.Common.{◌∙◌, ap, subst, sym, List, length}
use Rattle.lt_definitions.specs.Terms.{TermTree}
use Rattle.lt_terms.specs.declared.term.TermNode.{TermNode}
use Rattle.lt_terms.specs.Layout.{HasRoom, first, grow}
use Rattle.lt_terms.proofs.LayoutLemmas.{step, whole, IsStep}
use Rattle.lt_conditions.proofs.applied.term_of.Goals as goal

pub node-requires : goal.node-requires
node-requires c =
    let now : IsStep c.args.nodes.now c.loop-node.node-index c.node-item.result =
    step _ c.requires.0 _ _ c.requires.1 c.loop-node-test.true c.node-item.is
    in subst (λ (q : List TermTree × TermNode). HasRoom q.0 q.1) (λ i. (sym c.loop-node.invariant i, sym c.in_ok-copy.ensures i)) now.room

pub loop-node-preserved : goal.loop-node-preserved
loop-node-preserved c =
    let now : IsStep c.args.nodes.now c.loop-node.node-index c.node-item.result =
    step _ c.requires.0 _ _ c.requires.1 c.loop-node-test.true c.node-item.is
    in c.in_ok-builder.ensures ∙ (λ i. grow (c.loop-node.invariant i) (c.in_ok-copy.ensures i)) ∙ sym now.next

pub finish-requires : goal.finish-requires
finish-requires c =
    ap length (c.loop-node.invariant ∙ whole _ c.requires.0 _ c.requires.1 c.loop-node.auto.node-index-end c.loop-node-test.false)

pub returns : goal.returns
returns c = λ f e.
    ap first (sym c.finish.ensures ∙ c.loop-node.invariant ∙ whole _ f _ e c.loop-node.auto.node-index-end c.loop-node-test.false)
