use Rattle.std.proofs.Common.{◌≡◌, reverse, vec_len}
use Rattle.lt_terms.specs.Scopes.{scopes_of}
use Rattle.lt_terms.proofs.pending.next_tree.Given as goal

abbrev pub invariant-loop-task : goal.invariant-loop-task
invariant-loop-task l = scopes_of l.fn.scope (reverse l.fn.tasks.items) ≡ scopes_of l.scope (reverse l.tasks.items)

abbrev pub decreases-loop-task : goal.decreases-loop-task
decreases-loop-task l = vec_len l.tasks
