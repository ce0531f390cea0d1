use Rattle.std.proofs.Common.{[], reverse}
use Rattle.lt_store.specs.TypeTasks.{IsGoing, weights}
use Rattle.lt_store.proofs.typing.type_at.Given as goal

abbrev pub invariant-loop-task : goal.invariant-loop-task
invariant-loop-task g l = IsGoing l.sig (g.S.TermStore.nodes l.store) l.t l.no_binders [] l.work

abbrev pub decreases-loop-task : goal.decreases-loop-task
decreases-loop-task g l = weights (g.S.TermStore.nodes l.store) (reverse l.work.tasks.items)
