use Rattle.lt_store.proofs.TreeLemmas.{extends_on}
use Rattle.lt_formulas.proofs.closing.mk_closed_for_all.Goals as goal

pub returns : goal.returns
returns g c = record {
  kept = extends_on _ _ _ c.in_ok-predicate.ensures.kept c.in_ok-made.ensures.kept;
  made = c.in_ok-made.ensures.made;
  is = cc (c.in_ok-predicate.ensures.is, c.in_ok-made.ensures.is, c.in_ok-copy.ensures);
}
