use Rattle.lt_kernel.proofs.DerivedLines.{derived-type}
use Rattle.lt_kernel.proofs.proof.Proof.add_type.Goals as goal

pub invariant_of-self : goal.invariant_of-self
invariant_of-self g c =
    let inside = c.self.inside in
    record {
      steps = c.self.invariant.steps;
      named = c.self.invariant.named;
      derived = derived-type (g.S.TermStore.nodes inside.store) inside.signature c.add_type.new.self inside.named.entries inside.steps.items c.args.name c.args.arity c.add_type.result c.add_type.ensures c.self.invariant.derived;
    }
