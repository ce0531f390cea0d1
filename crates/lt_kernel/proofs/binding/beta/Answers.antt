use Rattle.std.proofs.Common.{sym}
use Rattle.lt_store.proofs.TreeLemmas.{tree_at-extends}
use Rattle.lt_kernel.proofs.Outcomes.{gives-alone, beta-gives}
use Rattle.lt_kernel.proofs.binding.beta.Goals as goal

pub returns-clause-step : goal.returns-clause-step
returns-clause-step g c =
    let t = tree_at-extends _ _ c.args.t c.in_ok-opened.ensures.kept c.requires.within in
    gives-alone _ _ c.in_ok-concl.concl _ _ c.without_hyps.ensures
    (beta-gives c.args.sig.now _ _ _ (sym c.in-Some.ensures.parts))
    c.in_ok-concl.ensures.made (rw (c.in_ok-ty.ensures, t, c.in_ok-opened.ensures.is) at c.in_ok-concl.ensures.is)
