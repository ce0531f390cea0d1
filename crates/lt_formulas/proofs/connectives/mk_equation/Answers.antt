use Rattle.lt_store.proofs.TreeLemmas.{tree_at-extends, extends_on}
use Rattle.lt_formulas.proofs.connectives.mk_equation.Goals as goal

pub returns : goal.returns
returns g c =
    let s = tree_at-extends _ _ c.args.s c.in_ok-eq.ensures.kept c.requires.s in
    let t = tree_at-extends _ _ c.args.t c.in_ok-eq.ensures.kept c.requires.t in
    record {
      kept = extends_on _ _ _ c.in_ok-eq.ensures.kept c.in_ok-made.ensures.kept;
      made = c.in_ok-made.ensures.made;
      is = cc (s, t, c.in_ok-eq.ensures.is, c.in_ok-made.ensures.is);
    }
