use Rattle.std.proofs.Common.{length, reverse}
use Rattle.lt_store.specs.Trees.{tree_at}
use Rattle.lt_store.specs.NameTasks.{HasNames, Leaves, weights}
use Rattle.lt_store.proofs.naming.from_store.Given as goal

abbrev pub invariant-loop-task : goal.invariant-loop-task
invariant-loop-task g l =
    let ns = g.S.TermStore.nodes l.store in
    record { names : HasNames l.names.items; leaves : Leaves ns (length l.names.items) (tree_at ns l.t) l.builder (reverse l.tasks.items) }

abbrev pub decreases-loop-task : goal.decreases-loop-task
decreases-loop-task g l = weights (g.S.TermStore.nodes l.store) (reverse l.tasks.items)
