use Rattle.lt_store.proofs.TreeLemmas.{extends_on}
use Rattle.lt_formulas.proofs.connectives.mk_falsity.Goals as goal

pub returns : goal.returns
returns g c = record {
  kept = extends_on _ _ _ (extends_on _ _ _ c.in_ok-q.ensures.kept c.in_ok-body.ensures.kept) c.in_ok-made.ensures.kept;
  made = c.in_ok-made.ensures.made;
  is = cc (c.in_ok-q.ensures.ok.stands, c.in_ok-body.ensures.ok.stands, c.in_ok-made.ensures.is, c.in_ok-bool.ensures, c.in_ok-copy.ensures);
}
