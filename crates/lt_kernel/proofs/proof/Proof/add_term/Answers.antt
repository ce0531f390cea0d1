use Rattle.lt_kernel.proofs.DerivedLines.{derived-extends}
use Rattle.lt_kernel.proofs.StateLemmas.{keeps-seen, within-wider, named-wider}
use Rattle.lt_kernel.proofs.GrowingLemmas.{keeps-carries}
use Rattle.lt_kernel.proofs.proof.Proof.add_term.Goals as goal

pub returns-in_err-id-clause-keeps : goal.returns-in_err-id-clause-keeps
returns-in_err-id-clause-keeps g c = keeps-seen _ _ (g.S.TermStore.nodes c.to_store.new.store) _ _ _ c.self.view_is c.in_err-id.ensures.kept c.self.invariant.steps c.self.invariant.named

pub returns-in_err-id-clause-carries : goal.returns-in_err-id-clause-carries
returns-in_err-id-clause-carries g c = keeps-carries _ _ (returns-in_err-id-clause-keeps g c)

pub returns-clause-keeps : goal.returns-clause-keeps
returns-clause-keeps g c = keeps-seen _ _ (g.S.TermStore.nodes c.to_store.new.store) _ _ _ c.self.view_is c.in_ok-id.ensures.kept c.self.invariant.steps c.self.invariant.named

pub returns-clause-carries : goal.returns-clause-carries
returns-clause-carries g c = keeps-carries _ _ (returns-clause-keeps g c)

pub invariant_of-self : goal.invariant_of-self
invariant_of-self g c =
    let inside = c.self.inside in
    let old = g.S.TermStore.nodes inside.store in
    let new = g.S.TermStore.nodes c.to_store.new.store in
    record {
      steps = within-wider old new inside.steps.items c.in_err-id.ensures.kept c.self.invariant.steps;
      named = named-wider old new inside.named.entries c.in_err-id.ensures.kept c.self.invariant.named;
      derived = derived-extends old new inside.signature inside.named.entries inside.steps.items c.in_err-id.ensures.kept c.self.invariant.steps c.self.invariant.named c.self.invariant.derived;
    }

pub invariant_of-self-2 : goal.invariant_of-self-2
invariant_of-self-2 g c =
    let inside = c.self.inside in
    let old = g.S.TermStore.nodes inside.store in
    let new = g.S.TermStore.nodes c.to_store.new.store in
    record {
      steps = within-wider old new inside.steps.items c.in_ok-id.ensures.kept c.self.invariant.steps;
      named = named-wider old new inside.named.entries c.in_ok-id.ensures.kept c.self.invariant.named;
      derived = derived-extends old new inside.signature inside.named.entries inside.steps.items c.in_ok-id.ensures.kept c.self.invariant.steps c.self.invariant.named c.self.invariant.derived;
    }
