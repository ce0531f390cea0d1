use Rattle.lt_store.proofs.TreeLemmas.{tree_at-extends, extends_on}
use Rattle.lt_formulas.proofs.closing.mk_closed_equation.Goals as goal

pub returns : goal.returns
returns g c =
    let t = tree_at-extends _ _ c.args.t c.in_ok-left.ensures.kept c.requires.t in
    let left = tree_at-extends _ _ c.in_ok-left.left c.in_ok-right.ensures.kept c.in_ok-left.ensures.made in
    record {
      kept = extends_on _ _ _ (extends_on _ _ _ c.in_ok-left.ensures.kept c.in_ok-right.ensures.kept) c.in_ok-made.ensures.kept;
      made = c.in_ok-made.ensures.made;
      is = cc (t, left, c.in_ok-left.ensures.is, c.in_ok-right.ensures.is, c.in_ok-made.ensures.is, c.in_ok-whole.ensures, c.in_ok-copy.ensures);
    }
