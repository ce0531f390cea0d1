use Rattle.lt_store.proofs.TreeLemmas.{tree_at-extends}
use Rattle.lt_nameless.proofs.NamelessRuleLemmas.{tinst-gives}
use Rattle.lt_kernel.proofs.Outcomes.{gives-later}
use Rattle.lt_kernel.proofs.replacing.tinst.Goals as goal

pub returns-clause-step : goal.returns-clause-step
returns-clause-step g c =
    let concl = tree_at-extends _ _ c.in_ok-from.from.now.concl c.in_ok-each.ensures.kept c.in_ok-from.ensures.within.1 in
    gives-later _ _ c.in_ok-hyps.hyps c.in_ok-concl.concl _ _ _ c.in_ok-concl.ensures.kept
    (tinst-gives _ c.args.i _ c.in_ok-from.ensures.finds c.args.a.now c.args.ty.now)
    c.in_ok-hyps.ensures.within (rw (c.new.ensures, c.in_ok-each.ensures.is, c.in_ok-by.ensures, c.as_slice.ensures) at c.in_ok-hyps.ensures.is) c.in_ok-concl.ensures.made (rw (concl, c.in_ok-by.ensures) at c.in_ok-concl.ensures.is)
