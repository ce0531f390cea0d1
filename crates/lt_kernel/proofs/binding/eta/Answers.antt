use Rattle.std.proofs.Common.{sym, ◌∙◌}
use Rattle.lt_store.proofs.TreeLemmas.{tree_at-extends}
use Rattle.lt_kernel.proofs.Outcomes.{gives-alone, eta-gives}
use Rattle.lt_kernel.proofs.binding.eta.Goals as goal

pub returns-clause-step : goal.returns-clause-step
returns-clause-step g c =
    let t = tree_at-extends _ _ c.args.t c.in_ok-has_loose.ensures.kept c.requires.within in
    let function = tree_at-extends _ _ c.in-Some.function c.in_ok-has_loose.ensures.kept c.in-Some.ensures.within in
    gives-alone _ _ c.in_ok-concl.concl _ _ c.without_hyps.ensures
    (eta-gives c.args.sig.now _ _ (sym c.in-Some.ensures.is) (sym c.in_ok-has_loose.ensures.is ∙ c.if-branch.false))
    c.in_ok-concl.ensures.made (rw (c.in_ok-ty.ensures, t, function) at c.in_ok-concl.ensures.is)
