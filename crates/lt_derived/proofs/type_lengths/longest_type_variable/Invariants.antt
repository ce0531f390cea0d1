use Rattle.std.proofs.Common.{ℕ, ◌≤◌, length}
use Rattle.lt_store.specs.Trees.{tree_at}
use Rattle.lt_programs.specs.TypeLengths.{longest_type_variable}
use Rattle.lt_derived.proofs.Walked.{total, Below, AllShort}
use Rattle.lt_derived.proofs.type_lengths.longest_type_variable.Given as goal

abbrev pub invariant-loop-id : goal.invariant-loop-id
invariant-loop-id g l =
    let ns = g.S.TermStore.nodes l.store in
    record {
      below : Below (length ns) l.todo.items;
      short : (n : ℕ) → l.longest ≤ n → AllShort n ns l.todo.items → longest_type_variable (tree_at ns l.t) ≤ n;
    }

abbrev pub decreases-loop-id : goal.decreases-loop-id
decreases-loop-id g l = total (g.S.TermStore.nodes l.store) l.todo.items
