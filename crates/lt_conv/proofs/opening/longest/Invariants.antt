use Rattle.std.proofs.Common.{ℕ, ◌≤◌, length}
use Rattle.lt_store.specs.Trees.{tree_at}
use Rattle.lt_reductions.specs.Reducts.{IsShort}
use Rattle.lt_conv.proofs.NodeTotals.{total, Below, AllShort}
use Rattle.lt_conv.proofs.opening.longest.Given as goal

abbrev pub invariant-loop-id : goal.invariant-loop-id
invariant-loop-id g l =
    let ns = g.S.TermStore.nodes l.store in
    record {
      below : Below (length ns) l.todo.items;
      short : (n : ℕ) → l.longest ≤ n → AllShort n ns l.todo.items → IsShort n (tree_at ns l.t);
    }

abbrev pub decreases-loop-id : goal.decreases-loop-id
decreases-loop-id g l = total 0 (g.S.TermStore.nodes l.store) l.todo.items
