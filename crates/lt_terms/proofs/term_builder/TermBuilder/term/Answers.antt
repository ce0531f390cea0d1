use Rattle.std.proofs.Common.{◌∙◌, ◌++◌, sym, ap, subst, List}
use Rattle.lt_definitions.specs.Terms.{TermTree}
use Rattle.lt_terms.specs.Layout.{HasRoom, grow}
use Rattle.lt_terms.proofs.LayoutLemmas.{step, whole, room-over, grow-over, IsStep}
use Rattle.lt_terms.proofs.term_builder.TermBuilder.term.Goals as goal

pub push_node-requires : goal.push_node-requires
push_node-requires c =
    let now : IsStep c.nodes-node-items.result.now c.loop-node.node-index c.node-item.result =
    step _ c.args.term.now _ _ c.nodes-node-items.ensures c.loop-node-test.true c.node-item.is
    in subst (HasRoom c.loop-node.builder) (sym c.in_ok-copy.ensures) (subst (λ (b : List TermTree). HasRoom b c.node-item.result) (sym c.loop-node.invariant) (room-over _ c.args.self _ now.room))

pub loop-node-preserved : goal.loop-node-preserved
loop-node-preserved c =
    let now : IsStep c.nodes-node-items.result.now c.loop-node.node-index c.node-item.result =
    step _ c.args.term.now _ _ c.nodes-node-items.ensures c.loop-node-test.true c.node-item.is
    in c.in_ok-push_node.ensures.ok ∙ (λ i. grow (c.loop-node.invariant i) (c.in_ok-copy.ensures i)) ∙ grow-over _ c.args.self _ now.room ∙ ap (λ b. b ++ c.args.self) (sym now.next)

pub returns : goal.returns
returns c =
    c.loop-node.invariant ∙ ap (λ b. b ++ c.args.self) (whole _ c.args.term.now _ c.nodes-node-items.ensures c.loop-node.auto.node-index-end c.loop-node-test.false)
