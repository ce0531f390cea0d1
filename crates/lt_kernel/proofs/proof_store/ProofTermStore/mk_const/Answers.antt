use Rattle.lt_kernel.proofs.DerivedLines.{derived-extends}
use Rattle.lt_kernel.proofs.StateLemmas.{keeps-seen, within-wider, named-wider}
use Rattle.lt_kernel.proofs.GrowingLemmas.{keeps-carries}
use Rattle.lt_kernel.proofs.proof_store.ProofTermStore.mk_const.Goals as goal

pub returns-clause-keeps : goal.returns-clause-keeps
returns-clause-keeps g c = keeps-seen _ _ (g.S.TermStore.nodes c.mk_const.new.self) _ _ _ c.self.view_is c.mk_const.ensures.kept c.self.invariant.steps c.self.invariant.named

pub returns-clause-carries : goal.returns-clause-carries
returns-clause-carries g c = keeps-carries _ _ (returns-clause-keeps g c)

pub invariant_of-self : goal.invariant_of-self
invariant_of-self g c =
    let inside = c.self.inside in
    let old = g.S.TermStore.nodes inside.store in
    let new = g.S.TermStore.nodes c.mk_const.new.self in
    record {
      steps = within-wider old new inside.steps.items c.mk_const.ensures.kept c.self.invariant.steps;
      named = named-wider old new inside.named.entries c.mk_const.ensures.kept c.self.invariant.named;
      derived = derived-extends old new inside.signature inside.named.entries inside.steps.items c.mk_const.ensures.kept c.self.invariant.steps c.self.invariant.named c.self.invariant.derived;
    }
