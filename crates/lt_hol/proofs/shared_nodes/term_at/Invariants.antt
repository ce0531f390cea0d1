use Rattle.lt_hol.proofs.SharedTrees.{tree_at, MakesLast, weights}
use Rattle.lt_hol.proofs.shared_nodes.term_at.Given as goal

abbrev pub invariant-loop-task : goal.invariant-loop-task
invariant-loop-task l = MakesLast l.nodes (tree_at l.nodes l.place) l.tasks.items l.builder

abbrev pub decreases-loop-task : goal.decreases-loop-task
decreases-loop-task l = weights l.nodes l.tasks.items
