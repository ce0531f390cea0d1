use Rattle.lt_store.proofs.TreeLemmas.{tree_at-extends, extends_on}
use Rattle.lt_formulas.proofs.connectives.mk_implies.Goals as goal

pub returns : goal.returns
returns g c =
    let p = tree_at-extends _ _ c.args.p c.in_ok-imp.ensures.kept c.requires.p in
    let q = tree_at-extends _ _ c.args.q c.in_ok-imp.ensures.kept c.requires.q in
    record {
      kept = extends_on _ _ _ c.in_ok-imp.ensures.kept c.in_ok-made.ensures.kept;
      made = c.in_ok-made.ensures.made;
      is = cc (p, q, c.in_ok-imp.ensures.is, c.in_ok-made.ensures.is);
    }
