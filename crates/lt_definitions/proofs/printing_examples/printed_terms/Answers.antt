use Rattle.std.proofs.Common.{refl}
use Rattle.std.specs.Fmt.{digits}
use Rattle.lt_definitions.proofs.printing_examples.printed_terms.Goals as goal

pub returns-clause-binders : goal.returns-clause-binders
unfolding digits
returns-clause-binders c = refl

pub returns-clause-beside : goal.returns-clause-beside
unfolding digits
returns-clause-beside c = refl

pub returns-clause-free_names_stay : goal.returns-clause-free_names_stay
unfolding digits
returns-clause-free_names_stay c = refl
