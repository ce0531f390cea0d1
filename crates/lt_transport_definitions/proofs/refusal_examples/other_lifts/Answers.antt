use Rattle.std.proofs.Common.{refl}
use Rattle.std.specs.Fmt.{digits}
use Rattle.std.specs.Prelude.{[], ◌∷◌}
use Rattle.lt_definitions.specs.Types.{bool}
use Rattle.lt_definitions.specs.Samples.{nat, tyvar, type_of_args}
use Rattle.lt_transport_definitions.specs.Quotients.{identity_quotient, registered_quotient, no_quotient_between}
use Rattle.lt_transport_definitions.specs.RefusalSamples.{box_entry}
use Rattle.lt_transport_definitions.proofs.refusal_examples.other_lifts.Goals as goal

pub returns-clause-quotient : goal.returns-clause-quotient
unfolding digits
returns-clause-quotient c = (no_quotient_between (type_of_args "t" []) nat, (refl, refl, refl), refl)

pub returns-clause-loose : goal.returns-clause-loose
unfolding digits
returns-clause-loose c = (identity_quotient bool, (refl, refl), refl)

pub returns-clause-respect : goal.returns-clause-respect
unfolding digits
returns-clause-respect c = (identity_quotient nat, (refl, refl), refl)

pub returns-clause-equation : goal.returns-clause-equation
unfolding digits
returns-clause-equation c = (registered_quotient box_entry (tyvar "a" ∷ []), refl, refl)

pub returns-clause-image : goal.returns-clause-image
unfolding digits
returns-clause-image c = refl

pub returns-clause-open : goal.returns-clause-open
unfolding digits
returns-clause-open c = refl
