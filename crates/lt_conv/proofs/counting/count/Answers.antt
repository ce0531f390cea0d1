use Rattle.std.proofs.Common.{◌-◌, ◌^◌, arith}
use Rattle.lt_store.specs.Trees.{tree_at}
use Rattle.lt_store.specs.Views.{node_of}
use Rattle.lt_reductions.specs.Reducts.{nodes_over}
use Rattle.lt_conv.proofs.NodeTotals.{taken, too-many, smaller, still-counted, still-below}
use Rattle.lt_conv.proofs.counting.count.Goals as goal

pub view-view-requires : goal.view-view-requires
view-view-requires g c = taken c.args.floor (g.S.TermStore.nodes c.args.store.now) c.loop-id.todo.items c.pop.new.self.items c.in-Some.id c.loop-id.seen c.args.most (nodes_over c.args.floor (tree_at (g.S.TermStore.nodes c.args.store.now) c.args.t)) c.loop-id.invariant.below c.loop-id.invariant.counted c.loop-id.invariant.few c.in-Some.ensures.items

pub returns-then-most-seen : goal.returns-then-most-seen
returns-then-most-seen g c = too-many c.args.floor (g.S.TermStore.nodes c.args.store.now) c.loop-id.todo.items c.pop.new.self.items c.in-Some.id c.loop-id.seen c.args.most (nodes_over c.args.floor (tree_at (g.S.TermStore.nodes c.args.store.now) c.args.t)) c.loop-id.invariant.below c.loop-id.invariant.counted c.loop-id.invariant.few c.in-Some.ensures.items (node_of c.view-view.result) c.view-view.ensures.stands c.view-view.ensures.below (2 ^ 64 - 1) c.node_count-more.result c.node_count-more.ensures c.if-most-seen.true

pub loop-id-smaller : goal.loop-id-smaller
loop-id-smaller g c = smaller c.args.floor (g.S.TermStore.nodes c.args.store.now) c.loop-id.todo.items c.pop.new.self.items c.in-Some.id c.loop-id.seen c.args.most (nodes_over c.args.floor (tree_at (g.S.TermStore.nodes c.args.store.now) c.args.t)) c.loop-id.invariant.below c.loop-id.invariant.counted c.loop-id.invariant.few c.in-Some.ensures.items (node_of c.view-view.result) c.view-view.ensures.stands c.view-view.ensures.below c.push_children.new.todo.items c.in_ok-push_children.ensures

pub loop-id-preserved : goal.loop-id-preserved
loop-id-preserved g c = record {
  below = still-below c.args.floor (g.S.TermStore.nodes c.args.store.now) c.loop-id.todo.items c.pop.new.self.items c.in-Some.id c.loop-id.seen c.args.most (nodes_over c.args.floor (tree_at (g.S.TermStore.nodes c.args.store.now) c.args.t)) c.loop-id.invariant.below c.loop-id.invariant.counted c.loop-id.invariant.few c.in-Some.ensures.items (node_of c.view-view.result) c.view-view.ensures.stands c.view-view.ensures.below c.push_children.new.todo.items c.in_ok-push_children.ensures;
  counted = still-counted c.args.floor (g.S.TermStore.nodes c.args.store.now) c.loop-id.todo.items c.pop.new.self.items c.in-Some.id c.loop-id.seen c.args.most (nodes_over c.args.floor (tree_at (g.S.TermStore.nodes c.args.store.now) c.args.t)) c.loop-id.invariant.below c.loop-id.invariant.counted c.loop-id.invariant.few c.in-Some.ensures.items (node_of c.view-view.result) c.view-view.ensures.stands c.view-view.ensures.below c.push_children.new.todo.items c.in_ok-push_children.ensures (2 ^ 64 - 1) c.node_count-more.result (omega (arith, c.requires.most)) c.node_count-more.ensures c.if-most-seen.false;
  few = (let h = c.loop-id.invariant.few in let n = c.if-most-seen.false in omega (arith, h, n));
}
