use Rattle.std.proofs.Common.{refl}
use Rattle.std.specs.Fmt.{digits}
use Rattle.lt_transport_definitions.proofs.refusal_examples.registered_already.Goals as goal

pub returns-clause-relator : goal.returns-clause-relator
unfolding digits
returns-clause-relator c = refl

pub returns-clause-property : goal.returns-clause-property
unfolding digits
returns-clause-property c = refl

pub returns-clause-domain : goal.returns-clause-domain
unfolding digits
returns-clause-domain c = refl

pub returns-clause-lifting : goal.returns-clause-lifting
unfolding digits
returns-clause-lifting c = refl

pub returns-clause-typedef : goal.returns-clause-typedef
unfolding digits
returns-clause-typedef c = refl

pub returns-clause-quotient : goal.returns-clause-quotient
unfolding digits
returns-clause-quotient c = refl

pub returns-clause-parametric : goal.returns-clause-parametric
unfolding digits
returns-clause-parametric c = refl

pub returns-clause-relation : goal.returns-clause-relation
unfolding digits
returns-clause-relation c = refl
