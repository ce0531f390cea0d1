use Rattle.lt_store.proofs.TreeLemmas.{tree_at-extends, extends_on}
use Rattle.lt_formulas.proofs.statements.mk_of_bound.Goals as goal

pub returns : goal.returns
returns g c =
    let p = tree_at-extends _ _ c.args.p c.in_ok-x.ensures.kept c.requires in
    record {
      kept = extends_on _ _ _ c.in_ok-x.ensures.kept c.in_ok-made.ensures.kept;
      made = c.in_ok-made.ensures.ok.within;
      is = cc (p, c.in_ok-x.ensures.ok.stands, c.in_ok-made.ensures.ok.stands);
    }
