use Rattle.std.proofs.Common.{◌≡◌, drop}
use Rattle.std.specs.List.{list_any}
use Rattle.lt_store.specs.declared.change.Work.TheVariants.{Find}
use Rattle.lt_store.specs.Trees.{trees, Extends}
use Rattle.lt_store.specs.Passes.{occurs, IsSound}
use Rattle.lt_store.proofs.passes.find_in.Given as goal

abbrev pub invariant-loop-root : goal.invariant-loop-root
invariant-loop-root g l =
    let old = g.S.TermStore.nodes l.fn.store in
    let now = g.S.TermStore.nodes l.store in
    record {
      kept : Extends old now;
      sound : IsSound (Find l.sought) now l.memo;
      none : list_any (occurs l.sought 0) (trees old (drop l.root-index l.roots)) ≡ list_any (occurs l.sought 0) (trees old l.roots);
    }
