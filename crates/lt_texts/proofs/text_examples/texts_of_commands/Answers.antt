use Rattle.std.proofs.Common.{refl}
use Rattle.std.specs.Fmt.{digits}
use Rattle.lt_texts.proofs.text_examples.texts_of_commands.Goals as goal

pub returns-clause-law : goal.returns-clause-law
unfolding digits
returns-clause-law c = refl

pub returns-clause-corr : goal.returns-clause-corr
unfolding digits
returns-clause-corr c = refl

pub returns-clause-relator : goal.returns-clause-relator
unfolding digits
returns-clause-relator c = refl

pub returns-clause-property : goal.returns-clause-property
unfolding digits
returns-clause-property c = refl

pub returns-clause-domain : goal.returns-clause-domain
unfolding digits
returns-clause-domain c = refl

pub returns-clause-rule : goal.returns-clause-rule
unfolding digits
returns-clause-rule c = refl

pub returns-clause-lifting : goal.returns-clause-lifting
unfolding digits
returns-clause-lifting c = refl

pub returns-clause-lifting_typedef : goal.returns-clause-lifting_typedef
unfolding digits
returns-clause-lifting_typedef c = refl

pub returns-clause-parametric : goal.returns-clause-parametric
unfolding digits
returns-clause-parametric c = refl

pub returns-clause-param_rule : goal.returns-clause-param_rule
unfolding digits
returns-clause-param_rule c = refl

pub returns-clause-carry : goal.returns-clause-carry
unfolding digits
returns-clause-carry c = refl

pub returns-clause-abs_eq : goal.returns-clause-abs_eq
unfolding digits
returns-clause-abs_eq c = refl

pub returns-clause-rep_eq : goal.returns-clause-rep_eq
unfolding digits
returns-clause-rep_eq c = refl

pub returns-clause-quotient_type : goal.returns-clause-quotient_type
unfolding digits
returns-clause-quotient_type c = refl

pub returns-clause-lift : goal.returns-clause-lift
unfolding digits
returns-clause-lift c = refl

pub returns-clause-equiv : goal.returns-clause-equiv
unfolding digits
returns-clause-equiv c = refl

pub returns-clause-implies : goal.returns-clause-implies
unfolding digits
returns-clause-implies c = refl
