use Rattle.std.proofs.Common.{sym}
use Rattle.lt_nameless.proofs.NamelessRuleLemmas.{cong-gives}
use Rattle.lt_kernel.proofs.Outcomes.{gives-later}
use Rattle.lt_kernel.proofs.applying.cong.Goals as goal

pub returns-clause-step : goal.returns-clause-step
returns-clause-step g c =
    gives-later _ _ c.in_ok-hyps.hyps c.in_ok-concl.concl _ _ _ c.in_ok-concl.ensures.kept
    (cong-gives _ c.args.i c.args.j _ _ c.in_ok-first.ensures.finds c.in_ok-second.ensures.finds _ _ _ _ _ _ _
    c.in_ok-functions.ensures.finds c.in_ok-arguments.ensures.finds (sym (rw c.in-Some.is at c.in_ok-ty.ensures)))
    c.in_ok-hyps.ensures.within c.in_ok-hyps.ensures.is c.in_ok-concl.ensures.made c.in_ok-concl.ensures.is
