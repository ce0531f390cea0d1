use Rattle.std.proofs.Common.{◌∙◌, ap, sym, map}
use Rattle.lt_terms.specs.Layout.{grow}
use Rattle.lt_terms.proofs.LayoutLemmas.{step, whole, IsStep}
use Rattle.lt_conditions.specs.LooseNames.{loose_grow}
use Rattle.lt_conditions.proofs.LooseTerms.{loose_of, loose-grown, loose-variables}
use Rattle.lt_conditions.proofs.loose.loose_variable.Goals as goal

pub loop-node-preserved : goal.loop-node-preserved
loop-node-preserved c =
    let now : IsStep c.nodes-node-items.result.now c.loop-node.node-index c.node-item.result =
    step _ c.args.t.now _ _ c.nodes-node-items.ensures c.loop-node-test.true c.node-item.is
    in c.in_ok-firsts.ensures ∙ ap (λ before. loose_grow c.args.allowed.now.keys before c.node-item.result) c.loop-node.invariant
    ∙ loose-grown c.args.allowed.now.keys _ c.node-item.result ∙ ap (map (loose_of c.args.allowed.now.keys)) (sym now.next)

pub returns : goal.returns
returns c =
    c.last_of.ensures (loose_of c.args.allowed.now.keys c.args.t.now)
    (c.loop-node.invariant ∙ ap (map (loose_of c.args.allowed.now.keys)) (whole _ c.args.t.now _ c.nodes-node-items.ensures c.loop-node.auto.node-index-end c.loop-node-test.false))
    ∙ sym (loose-variables c.args.allowed.now.keys c.args.t.now)
