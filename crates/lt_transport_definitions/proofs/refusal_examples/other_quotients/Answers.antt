use Rattle.std.proofs.Common.{refl}
use Rattle.std.specs.Fmt.{digits}
use Rattle.lt_transport_definitions.proofs.refusal_examples.other_quotients.Goals as goal

pub returns-clause-shape : goal.returns-clause-shape
unfolding digits
returns-clause-shape c = refl

pub returns-clause-abstract_type : goal.returns-clause-abstract_type
unfolding digits
returns-clause-abstract_type c = refl

pub returns-clause-relation : goal.returns-clause-relation
unfolding digits
returns-clause-relation c = refl

pub returns-clause-order : goal.returns-clause-order
unfolding digits
returns-clause-order c = refl

pub returns-clause-bare : goal.returns-clause-bare
unfolding digits
returns-clause-bare c = refl

pub returns-clause-lifted : goal.returns-clause-lifted
unfolding digits
returns-clause-lifted c = (_, refl, refl)

pub returns-clause-loose : goal.returns-clause-loose
unfolding digits
returns-clause-loose c = refl

pub returns-clause-bare_typedef : goal.returns-clause-bare_typedef
unfolding digits
returns-clause-bare_typedef c = refl
