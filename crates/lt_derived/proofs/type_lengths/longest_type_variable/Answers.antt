use Rattle.std.proofs.Common.{arith}
use Rattle.lt_store.specs.Views.{node_of}
use Rattle.lt_derived.proofs.Walked.{turn-taken, turn-smaller, turn-below, still-short}
use Rattle.lt_derived.proofs.type_lengths.longest_type_variable.Goals as goal

pub view-view-requires : goal.view-view-requires
view-view-requires g c = turn-taken (g.S.TermStore.nodes c.args.store.now) c.loop-id.todo.items c.pop.new.self.items c.in-Some.id c.loop-id.invariant.below c.in-Some.ensures.items

pub loop-id-smaller : goal.loop-id-smaller
loop-id-smaller g c = turn-smaller (g.S.TermStore.nodes c.args.store.now) c.loop-id.todo.items c.pop.new.self.items c.in-Some.id c.loop-id.invariant.below c.in-Some.ensures.items
    (node_of c.view-view.result) c.push_children.new.todo.items c.in_ok-push_children.ensures c.view-view.ensures.stands c.view-view.ensures.below

pub loop-id-preserved : goal.loop-id-preserved
loop-id-preserved g c = record {
  below = turn-below (g.S.TermStore.nodes c.args.store.now) c.loop-id.todo.items c.pop.new.self.items c.in-Some.id c.loop-id.invariant.below c.in-Some.ensures.items
      (node_of c.view-view.result) c.push_children.new.todo.items c.in_ok-push_children.ensures c.view-view.ensures.stands c.view-view.ensures.below;
  short = λ n h k. let m = c.max-longest.ensures in c.loop-id.invariant.short n (omega (arith, m, h))
      (still-short n (g.S.TermStore.nodes c.args.store.now) c.loop-id.todo.items c.pop.new.self.items c.push_children.new.todo.items c.in-Some.id (node_of c.view-view.result)
      c.in-Some.ensures.items c.in_ok-push_children.ensures c.view-view.ensures.stands (let d = c.in_ok-node_length.ensures in omega (arith, m, h, d)) k);
}
