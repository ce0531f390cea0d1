use Rattle.lt_store.proofs.TreeLemmas.{tree_at-extends, extends_on}
use Rattle.lt_formulas.proofs.statements.mk_double_negation.Goals as goal

pub returns : goal.returns
returns g c =
    let p = tree_at-extends _ _ c.args.p c.in_ok-falsity.ensures.kept c.requires in
    let falsity = tree_at-extends _ _ c.in_ok-falsity.falsity c.in_ok-denied.ensures.kept c.in_ok-falsity.ensures.made in
    let later = extends_on _ _ _ (extends_on _ _ _ c.in_ok-falsity.ensures.kept c.in_ok-denied.ensures.kept) c.in_ok-twice.ensures.kept in
    let p-later = tree_at-extends _ _ c.args.p later c.requires in
    record {
      kept = extends_on _ _ _ later c.in_ok-made.ensures.kept;
      made = c.in_ok-made.ensures.made;
      is = cc (p, falsity, p-later, c.in_ok-falsity.ensures.is, c.in_ok-denied.ensures.is, c.in_ok-twice.ensures.is, c.in_ok-made.ensures.is);
    }
