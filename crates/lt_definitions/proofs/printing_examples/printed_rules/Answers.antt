use Rattle.std.proofs.Common.{refl}
use Rattle.std.specs.Fmt.{digits}
use Rattle.lt_definitions.proofs.printing_examples.printed_rules.Goals as goal

pub returns-clause-numbers : goal.returns-clause-numbers
unfolding digits
returns-clause-numbers c = refl

pub returns-clause-names : goal.returns-clause-names
unfolding digits
returns-clause-names c = refl
