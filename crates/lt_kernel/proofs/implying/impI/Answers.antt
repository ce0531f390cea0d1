use Rattle.lt_nameless.proofs.NamelessRuleLemmas.{impI-gives}
use Rattle.lt_kernel.proofs.Outcomes.{gives-later}
use Rattle.lt_kernel.proofs.implying.impI.Goals as goal

pub returns-clause-step : goal.returns-clause-step
returns-clause-step g c =
    gives-later _ _ c.in_ok-hyps.hyps c.in_ok-concl.concl _ _ _ c.in_ok-concl.ensures.kept
    (impI-gives _ c.args.i _ c.in_ok-from.ensures.finds c.args.sig.now _ c.in_ok-check_boolean.ensures)
    c.in_ok-hyps.ensures.within c.in_ok-hyps.ensures.is c.in_ok-concl.ensures.made c.in_ok-concl.ensures.is
