use Rattle.std.proofs.Common.{◌≡◌, take, map, length}
use Rattle.std.specs.Prelude.{count_by}
use Rattle.lt_definitions.specs.Printing.{is_axiom, is_lemma}
use Rattle.lt_hol.specs.Items.{item_of}
use Rattle.lt_session.proofs.counts.count.Given as goal

abbrev pub invariant-loop-item : goal.invariant-loop-item
invariant-loop-item l = record {
  items : l.counts.items ≡ length l.items;
  axioms : l.counts.axioms ≡ count_by is_axiom (map item_of (take l.item-index l.items));
  lemmas : l.counts.lemmas ≡ count_by is_lemma (map item_of (take l.item-index l.items));
}
