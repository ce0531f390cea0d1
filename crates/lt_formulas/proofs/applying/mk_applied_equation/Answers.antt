use Rattle.lt_store.proofs.TreeLemmas.{tree_at-extends, extends_on}
use Rattle.lt_formulas.proofs.applying.mk_applied_equation.Goals as goal

pub returns : goal.returns
returns g c =
    let g-now = tree_at-extends _ _ c.args.g c.in_ok-left.ensures.kept c.requires.g in
    let b-now = tree_at-extends _ _ c.args.b c.in_ok-left.ensures.kept c.requires.b in
    let left = tree_at-extends _ _ c.in_ok-left.left c.in_ok-right.ensures.kept c.in_ok-left.ensures.ok.within in
    record {
      kept = extends_on _ _ _ (extends_on _ _ _ c.in_ok-left.ensures.kept c.in_ok-right.ensures.kept) c.in_ok-made.ensures.kept;
      made = c.in_ok-made.ensures.made;
      is = cc (g-now, b-now, left, c.in_ok-left.ensures.ok.stands, c.in_ok-right.ensures.ok.stands, c.in_ok-made.ensures.is);
    }
