use Rattle.lt_store.proofs.TreeLemmas.{tree_at-extends, extends_on}
use Rattle.lt_formulas.proofs.statements.mk_chosen.Goals as goal

pub returns : goal.returns
returns g c =
    let p = tree_at-extends _ _ c.args.p c.in_ok-of_x.ensures.kept c.requires in
    let of_x = tree_at-extends _ _ c.in_ok-of_x.of_x c.in_ok-of_some.ensures.kept c.in_ok-of_x.ensures.made in
    record {
      kept = extends_on _ _ _ (extends_on _ _ _ c.in_ok-of_x.ensures.kept c.in_ok-of_some.ensures.kept) c.in_ok-made.ensures.kept;
      made = c.in_ok-made.ensures.made;
      is = cc (p, of_x, c.in_ok-of_x.ensures.is, c.in_ok-of_some.ensures.is, c.in_ok-made.ensures.is);
    }
