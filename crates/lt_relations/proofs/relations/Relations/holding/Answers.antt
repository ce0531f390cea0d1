use Rattle.std.proofs.Common.{◌≡◌, ◌∙◌, ◌∷◌, [], ap, sym, map, length}
use Rattle.lt_expressions.proofs.LayoutLemmas.{step, whole, IsStep}
use Rattle.lt_relations.specs.Holdings.{holding}
use Rattle.lt_relations.proofs.HoldingLemmas.{made-count, one-made}
use Rattle.lt_relations.proofs.relations.Relations.holding.Goals as goal

here : (c : goal.After-node-item) → IsStep c.nodes-node-items.result.now c.loop-node.node-index c.node-item.result
here c = step _ c.args.rel.now _ _ c.nodes-node-items.ensures c.loop-node-test.true c.node-item.is

pub put_holding-requires : goal.put_holding-requires
put_holding-requires c =
    made-count c.args.self.now _ c.node-item.result c.loop-node.made.items c.loop-node.made.len (here c).room c.loop-node.invariant c.loop-node.made.ok.0

pub loop-node-preserved : goal.loop-node-preserved
loop-node-preserved c =
    let now : IsStep c.nodes-node-items.result.now c.loop-node.node-index c.node-item.result =
    step _ c.args.rel.now _ _ c.nodes-node-items.ensures c.loop-node-test.true c.node-item.is
    in c.in_ok-made.ensures _ c.loop-node.invariant ∙ ap (map (holding c.args.self.now)) (sym now.next)

made : (c : goal.After-deref) → c.loop-node.made.items ≡ map (holding c.args.self.now) (c.args.rel.now ∷ [])
made c =
    c.loop-node.invariant
    ∙ ap (map (holding c.args.self.now)) (whole _ c.args.rel.now _ c.nodes-node-items.ensures c.loop-node.auto.node-index-end c.loop-node-test.false)

pub only-requires : goal.only-requires
only-requires c = ap length (c.deref.ensures.value ∙ made c)

pub returns : goal.returns
returns c =
    one-made c.args.self.now c.args.rel.now c.loop-node.made.items c.only.result
    (c.loop-node.invariant
    ∙ ap (map (holding c.args.self.now)) (whole _ c.args.rel.now _ c.nodes-node-items.ensures c.loop-node.auto.node-index-end c.loop-node-test.false))
    (sym c.deref.ensures.value ∙ c.only.ensures)
