use Rattle.std.proofs.Common.{◌≡◌, length, map, take}
use Rattle.lt_store.specs.declared.change.Work.TheVariants.{Make}
use Rattle.lt_store.specs.Trees.{trees, AllBelow, Extends}
use Rattle.lt_store.specs.Passes.{image, IsSound}
use Rattle.lt_store.proofs.passes.make_each.Given as goal

abbrev pub invariant-loop-root : goal.invariant-loop-root
invariant-loop-root g l =
    let old = g.S.TermStore.nodes l.fn.store in
    let now = g.S.TermStore.nodes l.store in
    record {
      kept : Extends old now;
      sound : IsSound (Make l.change) now l.memo;
      below : AllBelow (length now) l.made;
      is : trees now l.made ≡ map (image old l.change 0) (trees old (take l.root-index l.roots));
    }
