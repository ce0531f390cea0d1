use Rattle.std.proofs.Common.{subst, sym}
use Rattle.lt_terms.proofs.LayoutLemmas.{step, whole, IsStep}
use Rattle.lt_extend.proofs.Placed.{IsLaid, laid-room, laid-next, laid-pushed, laid-one, laid-at}
use Rattle.lt_extend.proofs.ToldLines.{kept-on}
use Rattle.lt_extend.proofs.telling.add_term.Goals as goal

pub placed_node-requires : goal.placed_node-requires
placed_node-requires c =
    let now : IsStep c.nodes-node-items.result.now c.loop-node.node-index c.node-item.result =
    step _ c.args.t.now _ _ c.nodes-node-items.ensures c.loop-node-test.true c.node-item.is in
    laid-room _ _ _ c.node-item.result c.loop-node.invariant.laid now.room

pub add_node-requires : goal.add_node-requires
add_node-requires c = (laid-next _ _ _ c.node-item.result _ _ c.loop-node.invariant.laid c.in_ok-placed.ensures).children

pub loop-node-preserved : goal.loop-node-preserved
loop-node-preserved c =
    let now : IsStep c.nodes-node-items.result.now c.loop-node.node-index c.node-item.result =
    step _ c.args.t.now _ _ c.nodes-node-items.ensures c.loop-node-test.true c.node-item.is in
    record {
      laid = subst (IsLaid c.add_node.new.self.nodes c.push.new.self.items) (sym now.next)
          (laid-pushed c.loop-node.lines.nodes c.add_node.new.self.nodes c.in_ok-placed.placed c.placed_node.new.places.items c.push.new.self.items c.in_ok-place.place _
          (laid-next _ _ _ c.node-item.result _ _ c.loop-node.invariant.laid c.in_ok-placed.ensures) c.in_ok-place.ensures.ok c.in_ok-place.ensures.place c.in_ok-push.ensures.items);
      kept = kept-on c.args.lines.now c.loop-node.lines c.add_node.new.self c.loop-node.invariant.kept (record { lines = c.in_ok-place.ensures.lines; rules = c.in_ok-place.ensures.rules });
    }

pub last_of-requires : goal.last_of-requires
last_of-requires c =
    laid-one c.loop-node.lines.nodes c.loop-node.places.items c.args.t.now _ c.loop-node.invariant.laid
    (whole _ c.args.t.now _ c.nodes-node-items.ensures c.loop-node.auto.node-index-end c.loop-node-test.false)

pub returns-clause-placed : goal.returns-clause-placed
returns-clause-placed c =
    let at = laid-at c.loop-node.lines.nodes c.loop-node.places.items c.last_of.result c.args.t.now _ c.loop-node.invariant.laid
    (whole _ c.args.t.now _ c.nodes-node-items.ensures c.loop-node.auto.node-index-end c.loop-node-test.false) c.last_of.ensures in
    record { within = at.0; is = at.1 }
