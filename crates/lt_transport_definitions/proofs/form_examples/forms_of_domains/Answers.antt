use Rattle.std.proofs.Common.{refl}
use Rattle.std.specs.Fmt.{digits}
use Rattle.lt_transport_definitions.proofs.form_examples.forms_of_domains.Goals as goal

pub returns-clause-relator : goal.returns-clause-relator
unfolding digits
returns-clause-relator c = refl

pub returns-clause-prefix : goal.returns-clause-prefix
unfolding digits
returns-clause-prefix c = refl

pub returns-clause-no_domain : goal.returns-clause-no_domain
unfolding digits
returns-clause-no_domain c = refl

pub returns-clause-other_order : goal.returns-clause-other_order
unfolding digits
returns-clause-other_order c = refl

pub returns-clause-loose : goal.returns-clause-loose
unfolding digits
returns-clause-loose c = refl
