use Rattle.lt_transport_laws.proofs.ReductionLemmas.{steps-redex}
use Rattle.lt_transport_laws.proofs.NormalForms.{steps-one}
use Rattle.lt_transport_laws.proofs.reduction_laws.steps_are_one.Goals as goal

pub returns-clause-one : goal.returns-clause-one
returns-clause-one c = steps-one

pub returns-clause-redex : goal.returns-clause-redex
returns-clause-redex c = steps-redex
