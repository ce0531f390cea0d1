use Rattle.lt_nameless.proofs.NamelessRuleLemmas.{trans-gives}
use Rattle.lt_kernel.proofs.Outcomes.{gives-later}
use Rattle.lt_kernel.proofs.equating.trans.Goals as goal

pub returns-clause-step : goal.returns-clause-step
returns-clause-step g c =
    gives-later _ _ c.in_ok-hyps.hyps c.in_ok-concl.concl _ _ _ c.in_ok-concl.ensures.kept
    (trans-gives _ c.args.i c.args.j _ _ c.in_ok-first.ensures.finds c.in_ok-second.ensures.finds _ _ _ _ _ _
    c.in_ok-one.ensures.finds c.in_ok-other.ensures.finds c.in_ok-meet.ensures)
    c.in_ok-hyps.ensures.within c.in_ok-hyps.ensures.is c.in_ok-concl.ensures.made c.in_ok-concl.ensures.is
