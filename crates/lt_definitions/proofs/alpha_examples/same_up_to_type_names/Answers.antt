use Rattle.std.proofs.Common.{refl}
use Rattle.std.specs.Fmt.{digits}
use Rattle.lt_definitions.proofs.alpha_examples.same_up_to_type_names.Goals as goal

pub returns-clause-confused : goal.returns-clause-confused
unfolding digits
returns-clause-confused c = refl
