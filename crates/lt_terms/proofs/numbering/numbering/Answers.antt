use Rattle.std.proofs.Common.{◌≡◌, [], arith}
use Rattle.std.proofs.lemmas.Grind.{common_steps}
use Rattle.lt_terms.proofs.LayoutLemmas.{length-term_nodes}
use Rattle.lt_terms.proofs.NumberedNames.{walk-first, walk-below, walk-step, walk-last, walk-smaller}
use Rattle.lt_terms.proofs.numbering.numbering.Goals as goal

pub loop-at-init : goal.loop-at-init
loop-at-init c =
    walk-first c.args.t.now c.new-map.result c.new-places.result.items c.push.new.self.items c.len.result _ c.new-map.ensures c.new-places.ensures.items (omega (arith, c.len.ensures)) c.len.ensures
    (length-term_nodes 0 c.args.t.now) c.in_ok-push.ensures.items

pub node-node-requires : goal.node-node-requires
node-node-requires c =
    omega (arith, walk-below c.args.t.now c.loop-at.map c.loop-at.places.items c.pop.new.self.items c.in-Some.at c.in-Some.ensures.items c.loop-at.invariant, length-term_nodes 0 c.args.t.now)

pub loop-at-smaller : goal.loop-at-smaller
loop-at-smaller c =
    walk-smaller c.args.t.now c.loop-at.places.items c.pop.new.self.items c.push_parts.new.places.items c.in-Some.at c.node-node.result.now c.in-Some.ensures.items c.node-node.ensures c.in_ok-push_parts.ensures

pub loop-at-preserved : goal.loop-at-preserved
loop-at-preserved c =
    walk-step c.args.t.now c.loop-at.map c.in_ok-map.map c.loop-at.places.items c.pop.new.self.items c.push_parts.new.places.items c.in-Some.at c.node-node.result.now c.in-Some.ensures.items c.node-node.ensures
    c.in_ok-map.ensures c.in_ok-push_parts.ensures c.loop-at.invariant

pub returns : goal.returns
returns c =
    let none : c.loop-at.places.items ≡ [] = grind (arith, common_steps) in
    walk-last c.args.t.now c.loop-at.map c.loop-at.places.items none c.loop-at.invariant
