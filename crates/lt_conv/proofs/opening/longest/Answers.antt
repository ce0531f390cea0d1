use Rattle.std.proofs.Common.{arith}
use Rattle.lt_store.specs.Trees.{tree_at}
use Rattle.lt_conv.specs.Conversions.{node_length}
use Rattle.lt_store.specs.Views.{node_of}
use Rattle.lt_conv.proofs.NodeTotals.{turn-taken, turn-smaller, turn-below, still-short, at-most-left, at-most-right, longest-short}
use Rattle.lt_conv.proofs.opening.longest.Goals as goal

pub view-view-requires : goal.view-view-requires
view-view-requires g c = turn-taken (g.S.TermStore.nodes c.args.store.now) c.loop-id.todo.items c.pop.new.self.items c.in-Some-pop.id c.loop-id.invariant.below c.in-Some-pop.ensures.items

pub loop-id-smaller : goal.loop-id-smaller
loop-id-smaller g c = turn-smaller (g.S.TermStore.nodes c.args.store.now) c.loop-id.todo.items c.pop.new.self.items c.push_children.new.todo.items c.in-Some-pop.id (node_of c.view-view.result) c.loop-id.invariant.below c.in-Some-pop.ensures.items c.in_ok-push_children.ensures c.view-view.ensures.stands c.view-view.ensures.below

pub loop-id-preserved : goal.loop-id-preserved
loop-id-preserved g c = record {
  below = turn-below (g.S.TermStore.nodes c.args.store.now) c.loop-id.todo.items c.pop.new.self.items c.push_children.new.todo.items c.in-Some-pop.id (node_of c.view-view.result) c.loop-id.invariant.below c.in-Some-pop.ensures.items c.in_ok-push_children.ensures c.view-view.ensures.stands c.view-view.ensures.below;
  short = λ n h k. c.loop-id.invariant.short n (at-most-left c.loop-id.longest c.name_length.result c.max-longest.result n c.max-longest.ensures h)
      (still-short n (g.S.TermStore.nodes c.args.store.now) c.loop-id.todo.items c.pop.new.self.items c.push_children.new.todo.items c.in-Some-pop.id (node_of c.view-view.result) c.in-Some-pop.ensures.items c.in_ok-push_children.ensures c.view-view.ensures.stands
      (at-most-right c.loop-id.longest c.name_length.result (node_length (node_of c.view-view.result)) c.max-longest.result n c.max-longest.ensures c.name_length.ensures h) k);
}

pub returns-in-Some : goal.returns-in-Some
returns-in-Some g c = let e = c.in-Some.ensures.names in longest-short c.in-Some.known.names (tree_at (g.S.TermStore.nodes c.args.store.now) c.args.t) (omega (arith, e))
