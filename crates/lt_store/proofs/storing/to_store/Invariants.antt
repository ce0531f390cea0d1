use Rattle.std.proofs.Common.{length, [], drop}
use Rattle.lt_nameless.specs.Nameless.{nameless}
use Rattle.lt_store.specs.Trees.{AllBelow, Extends}
use Rattle.lt_store.specs.Stacks.{stack}
use Rattle.lt_store.proofs.StoredTerms.{Remains}
use Rattle.lt_store.proofs.storing.to_store.Given as goal

abbrev pub invariant-loop-at : goal.invariant-loop-at
invariant-loop-at g l =
    let now = g.S.TermStore.nodes l.store in
    record {
      kept : Extends (g.S.TermStore.nodes l.fn.store) now;
      below : AllBelow (length now) l.ids.items;
      remains : Remains (nameless [] l.t) (stack now l.ids.items) (drop l.at l.nodes) (drop l.at l.binders.items);
    }
