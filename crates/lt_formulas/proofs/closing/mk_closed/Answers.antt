use Rattle.lt_store.proofs.TreeLemmas.{extends_on}
use Rattle.lt_formulas.proofs.closing.mk_closed.Goals as goal

pub returns : goal.returns
returns g c = record {
  kept = extends_on _ _ _ c.in_ok-body.ensures.kept c.in_ok-made.ensures.kept;
  made = c.in_ok-made.ensures.ok.within;
  is = cc (c.in_ok-body.ensures.is, c.in_ok-made.ensures.ok.stands, c.in_ok-copy.ensures);
}
