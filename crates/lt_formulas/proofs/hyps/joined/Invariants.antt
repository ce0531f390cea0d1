use Rattle.std.proofs.Common.{◌≡◌, length, drop}
use Rattle.lt_nameless.specs.NamelessRules.{nameless_union}
use Rattle.lt_store.specs.Trees.{trees, AllBelow}
use Rattle.lt_formulas.proofs.hyps.joined.Given as goal

abbrev pub invariant-loop-h : goal.invariant-loop-h
invariant-loop-h g l =
    let ns = g.S.TermStore.nodes l.store in
    record {
      within : AllBelow (length ns) l.all;
      is : nameless_union (trees ns l.all) (trees ns (drop l.h-index l.more)) ≡ nameless_union (trees ns l.fn.hyps) (trees ns l.more);
    }
