use Rattle.std.proofs.Common.{refl}
use Rattle.std.specs.Fmt.{digits}
use Rattle.lt_transport_definitions.proofs.form_examples.forms_of_parametrised.Goals as goal

pub returns-clause-form : goal.returns-clause-form
unfolding digits
returns-clause-form c = refl

pub returns-clause-none : goal.returns-clause-none
unfolding digits
returns-clause-none c = refl

pub returns-clause-other_type : goal.returns-clause-other_type
unfolding digits
returns-clause-other_type c = refl

pub returns-clause-there : goal.returns-clause-there
unfolding digits
returns-clause-there c = refl

pub returns-clause-not_there : goal.returns-clause-not_there
unfolding digits
returns-clause-not_there c = refl
