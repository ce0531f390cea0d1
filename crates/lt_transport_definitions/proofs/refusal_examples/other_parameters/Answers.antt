use Rattle.std.proofs.Common.{refl}
use Rattle.std.specs.Fmt.{digits}
use Rattle.lt_transport_definitions.proofs.refusal_examples.other_parameters.Goals as goal

pub returns-clause-none : goal.returns-clause-none
unfolding digits
returns-clause-none c = refl

pub returns-clause-subtype : goal.returns-clause-subtype
unfolding digits
returns-clause-subtype c = refl

pub returns-clause-head : goal.returns-clause-head
unfolding digits
returns-clause-head c = refl

pub returns-clause-prefix : goal.returns-clause-prefix
unfolding digits
returns-clause-prefix c = refl

pub returns-clause-argument : goal.returns-clause-argument
unfolding digits
returns-clause-argument c = refl

pub returns-clause-types : goal.returns-clause-types
unfolding digits
returns-clause-types c = refl

pub returns-clause-relation : goal.returns-clause-relation
unfolding digits
returns-clause-relation c = refl
