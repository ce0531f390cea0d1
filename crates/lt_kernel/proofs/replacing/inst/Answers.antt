use Rattle.lt_store.specs.Trees.{tree_at}
use Rattle.lt_store.proofs.TreeLemmas.{tree_at-extends}
use Rattle.lt_nameless.proofs.NamelessRuleLemmas.{inst-gives}
use Rattle.lt_kernel.proofs.Outcomes.{gives-later}
use Rattle.lt_kernel.proofs.replacing.inst.Goals as goal

pub returns-clause-step : goal.returns-clause-step
returns-clause-step g c =
    let old = g.S.TermStore.nodes c.args.store.now in
    let t = tree_at-extends _ _ c.args.t c.in_ok-each.ensures.kept c.requires.t.within in
    let concl = tree_at-extends _ _ c.in_ok-from.from.now.concl c.in_ok-each.ensures.kept c.in_ok-from.ensures.within.1 in
    gives-later _ _ c.in_ok-hyps.hyps c.in_ok-concl.concl _ _ _ c.in_ok-concl.ensures.kept
    (inst-gives _ c.args.i _ c.in_ok-from.ensures.finds c.args.sig.now c.args.x.now c.args.ty.now (tree_at old c.args.t) c.in_ok-check_type.ensures)
    c.in_ok-hyps.ensures.within (rw (c.new.ensures, c.in_ok-each.ensures.is, c.as_slice.ensures) at c.in_ok-hyps.ensures.is) c.in_ok-concl.ensures.made (rw (t, concl) at c.in_ok-concl.ensures.is)
