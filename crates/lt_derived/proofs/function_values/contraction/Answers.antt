use Rattle.lt_store.specs.Trees.{tree_at}
use Rattle.lt_derived.proofs.FunctionSteps.{eta-contracts}
use Rattle.lt_derived.proofs.function_values.contraction.Goals as goal

pub returns-in-Ok-clause-contracts : goal.returns-in-Ok-clause-contracts
returns-in-Ok-clause-contracts g c =
    let old = c.args.proof.now in
    eta-contracts c.eta.new.self old.signature (tree_at old.nodes c.args.t) c.in-Ok.number c.in-Ok.ensures.reaches
