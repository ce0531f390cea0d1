use Rattle.std.proofs.Common.{ap}
use Rattle.lt_store.specs.Trees.{trees}
use Rattle.lt_store.proofs.TreeLemmas.{tree_at-extends, extends_on}
use Rattle.lt_nameless.proofs.NamelessRuleLemmas.{allI-gives}
use Rattle.lt_kernel.proofs.Outcomes.{gives-later, not-true}
use Rattle.lt_kernel.proofs.quantifying.allI.Goals as goal

pub returns-clause-step : goal.returns-clause-step
returns-clause-step g c =
    let old = g.S.TermStore.nodes c.args.store.now in
    let kept = c.in_ok-check_absent.ensures.kept in
    let concl = tree_at-extends _ _ c.in_ok-from.from.now.concl kept c.in_ok-from.ensures.within.1 in
    gives-later _ _ c.in_ok-hyps.hyps c.in_ok-concl.concl _ _ _ (extends_on _ _ _ kept c.in_ok-concl.ensures.kept)
    (allI-gives _ c.args.i _ c.in_ok-from.ensures.finds c.args.x.now c.args.ty.now (not-true _ c.in_ok-check_absent.ensures.tests))
    (rw c.in_ok-hyps.ensures c.in_ok-from.ensures.within.0) (ap (trees old) c.in_ok-hyps.ensures) c.in_ok-concl.ensures.made (rw concl at c.in_ok-concl.ensures.is)
