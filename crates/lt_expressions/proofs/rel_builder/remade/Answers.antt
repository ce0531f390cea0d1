use Rattle.std.proofs.Common.{◌∙◌, ap, subst, sym, List, length}
use Rattle.lt_transport_definitions.specs.Relations.{Relation}
use Rattle.lt_expressions.specs.Layout.{HasRoom, grow, first}
use Rattle.lt_expressions.proofs.LayoutLemmas.{step-from, whole-from, IsStep}
use Rattle.std.proofs.lemmas.Result.{IfOk-weaker}
use Rattle.lt_expressions.proofs.rel_builder.remade.Goals as goal

here : (c : goal.After-node-item) → IsStep c.args.nodes.now c.loop-node.node-index c.node-item.result
here c = step-from c.requires.0 _ c.requires.1 _ _ c.requires.2 c.loop-node-test.true c.node-item.is

pub node-requires : goal.node-requires
node-requires c = subst (λ (b : List Relation). HasRoom b c.node-item.result) (sym c.loop-node.invariant) (here c).room

pub loop-node-preserved : goal.loop-node-preserved
loop-node-preserved c =
    let now : IsStep c.args.nodes.now c.loop-node.node-index c.node-item.result =
    step-from c.requires.0 _ c.requires.1 _ _ c.requires.2 c.loop-node-test.true c.node-item.is
    in c.in_ok-builder.ensures ∙ ap (λ (b : List Relation). grow b c.node-item.result) c.loop-node.invariant ∙ sym now.next

pub finish-requires : goal.finish-requires
finish-requires c = ap length (c.loop-node.invariant ∙ whole-from c.requires.0 _ c.requires.1 _ c.requires.2 c.loop-node.auto.node-index-end c.loop-node-test.false)

pub returns : goal.returns
returns c =
    IfOk-weaker c.finish.result _ _ (λ made e from r h.
    ap first (sym e ∙ c.loop-node.invariant ∙ whole-from from _ r _ h c.loop-node.auto.node-index-end c.loop-node-test.false))
    c.finish.ensures
