use Rattle.std.proofs.Common.{ap}
use Rattle.lt_store.specs.Trees.{trees}
use Rattle.lt_store.proofs.TreeLemmas.{tree_at-extends, extends_on}
use Rattle.lt_nameless.proofs.NamelessRuleLemmas.{abs-gives}
use Rattle.lt_kernel.proofs.Outcomes.{gives-later, not-true}
use Rattle.lt_kernel.proofs.binding.abs.Goals as goal

pub returns-clause-step : goal.returns-clause-step
returns-clause-step g c =
    let old = g.S.TermStore.nodes c.args.store.now in
    let kept = c.in_ok-check_absent.ensures.kept in
    let left = tree_at-extends _ _ c.in_ok-sides.sides.left kept c.in_ok-sides.ensures.within.0 in
    let right = tree_at-extends _ _ c.in_ok-sides.sides.right kept c.in_ok-sides.ensures.within.1 in
    gives-later _ _ c.in_ok-hyps.hyps c.in_ok-concl.concl _ _ _ (extends_on _ _ _ kept c.in_ok-concl.ensures.kept)
    (abs-gives _ c.args.i _ c.in_ok-from.ensures.finds c.args.x.now c.args.ty.now _ _ _ c.in_ok-sides.ensures.finds (not-true _ c.in_ok-check_absent.ensures.tests))
    (rw c.in_ok-hyps.ensures c.in_ok-from.ensures.within.0) (ap (trees old) c.in_ok-hyps.ensures) c.in_ok-concl.ensures.made (rw (left, right) at c.in_ok-concl.ensures.is)
