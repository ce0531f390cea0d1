use Rattle.std.proofs.Common.{ap}
use Rattle.lt_store.specs.Trees.{trees}
use Rattle.lt_nameless.proofs.NamelessRuleLemmas.{allE-gives}
use Rattle.lt_kernel.proofs.Outcomes.{gives-later}
use Rattle.lt_kernel.proofs.quantifying.allE.Goals as goal

pub returns-clause-step : goal.returns-clause-step
returns-clause-step g c =
    let old = g.S.TermStore.nodes c.args.store.now in
    gives-later _ _ c.in_ok-hyps.hyps c.in_ok-concl.concl _ _ _ c.in_ok-concl.ensures.kept
    (allE-gives _ c.args.i _ c.in_ok-from.ensures.finds c.args.sig.now _ _ _ c.in_ok-all.ensures.finds c.in_ok-check_type.ensures)
    (rw c.in_ok-hyps.ensures c.in_ok-from.ensures.within.0) (ap (trees old) c.in_ok-hyps.ensures) c.in_ok-concl.ensures.made c.in_ok-concl.ensures.is
