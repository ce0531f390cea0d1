use Rattle.std.proofs.Common.{◌≡◌, ◌+◌, ◌≤◌, length}
use Rattle.lt_store.specs.Trees.{tree_at}
use Rattle.lt_reductions.specs.Reducts.{nodes_over}
use Rattle.lt_conv.proofs.NodeTotals.{total, Below}
use Rattle.lt_conv.proofs.counting.count.Given as goal

abbrev pub invariant-loop-id : goal.invariant-loop-id
invariant-loop-id g l =
    let ns = g.S.TermStore.nodes l.store in
    record {
      below : Below (length ns) l.todo.items;
      counted : l.seen + total l.floor ns l.todo.items ≡ nodes_over l.floor (tree_at ns l.t);
      few : l.seen ≤ l.most;
    }

abbrev pub decreases-loop-id : goal.decreases-loop-id
decreases-loop-id g l = total l.floor (g.S.TermStore.nodes l.store) l.todo.items
