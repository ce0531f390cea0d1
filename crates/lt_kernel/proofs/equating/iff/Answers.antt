use Rattle.std.proofs.Common.{◌∙◌, ap}
use Rattle.lt_nameless.specs.NamelessRules.{nameless_equation}
use Rattle.lt_store.specs.Trees.{tree_at}
use Rattle.lt_nameless.proofs.NamelessRuleLemmas.{iff-gives}
use Rattle.lt_kernel.proofs.Outcomes.{gives-later}
use Rattle.lt_kernel.proofs.equating.iff.Goals as goal

pub returns-clause-step : goal.returns-clause-step
returns-clause-step g c =
    let old = g.S.TermStore.nodes c.args.store.now in
    gives-later _ _ c.in_ok-hyps.hyps c.in_ok-concl.concl _ _ _ c.in_ok-concl.ensures.kept
    (iff-gives _ c.args.i c.args.j _ _ c.in_ok-first.ensures.finds c.in_ok-second.ensures.finds _ _ _ _
    c.in_ok-p.ensures.finds c.in_ok-r.ensures.finds c.in_ok-meet.ensures c.in_ok-meet-2.ensures)
    c.in_ok-hyps.ensures.within c.in_ok-hyps.ensures.is c.in_ok-concl.ensures.made
    (c.in_ok-concl.ensures.is ∙ ap (λ ty. nameless_equation ty (tree_at old c.in_ok-p.p) (tree_at old c.in_ok-p.q)) c.in_ok-ty.ensures)
