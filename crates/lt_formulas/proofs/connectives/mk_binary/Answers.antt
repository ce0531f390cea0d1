use Rattle.lt_store.proofs.TreeLemmas.{tree_at-extends, extends_on}
use Rattle.lt_formulas.proofs.connectives.mk_binary.Goals as goal

pub returns : goal.returns
returns g c =
    let b = tree_at-extends _ _ c.args.b c.in_ok-half.ensures.kept c.requires.b in
    record {
      kept = extends_on _ _ _ c.in_ok-half.ensures.kept c.in_ok-made.ensures.kept;
      made = c.in_ok-made.ensures.ok.within;
      is = cc (b, c.in_ok-half.ensures.ok.stands, c.in_ok-made.ensures.ok.stands);
    }
