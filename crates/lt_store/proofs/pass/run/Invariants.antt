use Rattle.lt_store.specs.Trees.{Extends}
use Rattle.lt_store.specs.Passes.{IsSound, step_of}
use Rattle.lt_store.proofs.TaskLemmas.{IsUnderway, total_weight}
use Rattle.lt_store.proofs.pass.run.Given as goal

abbrev pub invariant-loop-task : goal.invariant-loop-task
invariant-loop-task g l =
    let old = g.S.TermStore.nodes l.fn.store in
    let now = g.S.TermStore.nodes l.store in
    record {
      kept : Extends old now;
      sound : IsSound l.work now l.memo;
      underway : IsUnderway (step_of l.work) old l.root l.memo l.tasks.items;
    }

abbrev pub decreases-loop-task : goal.decreases-loop-task
decreases-loop-task g l = total_weight (g.S.TermStore.nodes l.fn.store) l.tasks.items
