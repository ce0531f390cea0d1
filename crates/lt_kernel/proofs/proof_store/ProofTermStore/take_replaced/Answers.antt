use Rattle.std.proofs.Common.{List, length, sym, subst}
use Rattle.lt_store.specs.declared.node.Node.{Node}
use Rattle.lt_kernel.specs.Derived.{AreDerived}
use Rattle.lt_kernel.specs.Sequents.{AreWithin, NamedWithin}
use Rattle.lt_kernel.proofs.StateLemmas.{state}
use Rattle.lt_kernel.proofs.proof_store.ProofTermStore.take_replaced.Goals as goal

pub invariant_of-self : goal.invariant_of-self
invariant_of-self g c =
    let inside = c.self.inside in
    let same = sym c.take_replaced.ensures.kept in
    record {
      steps = subst (λ (ns : List Node). AreWithin (length ns) inside.steps.items) same c.self.invariant.steps;
      named = subst (λ (ns : List Node). NamedWithin (length ns) inside.named.entries) same c.self.invariant.named;
      derived = subst (λ (ns : List Node). AreDerived (state ns inside.signature inside.named.entries inside.steps.items)) same c.self.invariant.derived;
    }
