use Rattle.lt_kernel.proofs.DerivedLines.{derived-const}
use Rattle.lt_kernel.proofs.proof.Proof.add_const.Goals as goal

pub invariant_of-self : goal.invariant_of-self
invariant_of-self g c =
    let inside = c.self.inside in
    record {
      steps = c.self.invariant.steps;
      named = c.self.invariant.named;
      derived = derived-const (g.S.TermStore.nodes inside.store) inside.signature c.add_const.new.self inside.named.entries inside.steps.items c.args.name c.args.ty c.add_const.result c.add_const.ensures c.self.invariant.derived;
    }
