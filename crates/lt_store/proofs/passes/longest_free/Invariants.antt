use Rattle.std.proofs.Common.{◌≡◌, drop}
use Rattle.std.specs.Prelude.{max}
use Rattle.lt_store.specs.declared.change.Work.TheVariants.{Measure}
use Rattle.lt_store.specs.Trees.{trees, Extends}
use Rattle.lt_store.specs.Passes.{longest_free_of, IsSound}
use Rattle.lt_store.proofs.passes.longest_free.Given as goal

abbrev pub invariant-loop-t : goal.invariant-loop-t
invariant-loop-t g l =
    let old = g.S.TermStore.nodes l.fn.store in
    let now = g.S.TermStore.nodes l.store in
    record {
      kept : Extends old now;
      sound : IsSound Measure now l.memo;
      longest : max l.longest (longest_free_of (trees old (drop l.t-index l.ts))) ≡ longest_free_of (trees old l.ts);
    }
