use Rattle.std.proofs.Common.{refl}
use Rattle.std.specs.Fmt.{digits}
use Rattle.lt_transport_definitions.proofs.refusal_examples.other_forms.Goals as goal

pub returns-clause-relator : goal.returns-clause-relator
unfolding digits
returns-clause-relator c = refl

pub returns-clause-property : goal.returns-clause-property
unfolding digits
returns-clause-property c = refl

pub returns-clause-domain : goal.returns-clause-domain
unfolding digits
returns-clause-domain c = refl

pub returns-clause-relator_there : goal.returns-clause-relator_there
unfolding digits
returns-clause-relator_there c = (_, refl, refl)

pub returns-clause-domain_there : goal.returns-clause-domain_there
unfolding digits
returns-clause-domain_there c = (_, refl, refl)
