use Rattle.std.proofs.Common.{refl}
use Rattle.std.specs.Fmt.{digits}
use Rattle.lt_transport_definitions.proofs.refusal_examples.missing_laws.Goals as goal

pub returns-clause-rule : goal.returns-clause-rule
unfolding digits
returns-clause-rule c = refl

pub returns-clause-lifting : goal.returns-clause-lifting
unfolding digits
returns-clause-lifting c = refl

pub returns-clause-typedef : goal.returns-clause-typedef
unfolding digits
returns-clause-typedef c = refl

pub returns-clause-quotient : goal.returns-clause-quotient
unfolding digits
returns-clause-quotient c = refl

pub returns-clause-parametric : goal.returns-clause-parametric
unfolding digits
returns-clause-parametric c = refl

pub returns-clause-param_rule : goal.returns-clause-param_rule
unfolding digits
returns-clause-param_rule c = refl

pub returns-clause-equiv : goal.returns-clause-equiv
unfolding digits
returns-clause-equiv c = refl

pub returns-clause-implies : goal.returns-clause-implies
unfolding digits
returns-clause-implies c = refl

pub returns-clause-abs_eq : goal.returns-clause-abs_eq
unfolding digits
returns-clause-abs_eq c = refl

pub returns-clause-rep_eq : goal.returns-clause-rep_eq
unfolding digits
returns-clause-rep_eq c = refl
