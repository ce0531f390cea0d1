use Rattle.std.proofs.Common.{refl}
use Rattle.std.specs.Fmt.{digits}
use Rattle.lt_transport_definitions.proofs.refusal_examples.forms_by_relcompp.Goals as goal

pub returns-clause-typed : goal.returns-clause-typed
unfolding digits
returns-clause-typed c = (_, refl, refl)

pub returns-clause-other : goal.returns-clause-other
unfolding digits
returns-clause-other c = refl
