use Rattle.std.proofs.Common.{◌≡◌, length, take}
use Rattle.lt_nameless.specs.NamelessRules.{nameless_without}
use Rattle.lt_store.specs.Trees.{tree_at, trees, AllBelow}
use Rattle.lt_formulas.proofs.hyps.left_of.Given as goal

abbrev pub invariant-loop-h : goal.invariant-loop-h
invariant-loop-h g l =
    let ns = g.S.TermStore.nodes l.store in
    record {
      within : AllBelow (length ns) l.left;
      is : trees ns l.left ≡ nameless_without (tree_at ns l.p) (trees ns (take l.h-index l.hyps));
    }
