use Rattle.std.proofs.Common.{refl}
use Rattle.std.specs.Fmt.{digits}
use Rattle.lt_transport_definitions.proofs.refusal_examples.names_that_are_there.Goals as goal

pub returns-clause-quotient : goal.returns-clause-quotient
unfolding digits
returns-clause-quotient c = refl

pub returns-clause-param_rule : goal.returns-clause-param_rule
unfolding digits
returns-clause-param_rule c = refl

pub returns-clause-equiv : goal.returns-clause-equiv
unfolding digits
returns-clause-equiv c = refl

pub returns-clause-carry : goal.returns-clause-carry
unfolding digits
returns-clause-carry c = refl
