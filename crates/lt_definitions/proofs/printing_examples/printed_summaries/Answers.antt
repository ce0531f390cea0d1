use Rattle.std.proofs.Common.{refl}
use Rattle.std.specs.Fmt.{digits}
use Rattle.lt_definitions.proofs.printing_examples.printed_summaries.Goals as goal

pub returns-clause-declared_type : goal.returns-clause-declared_type
unfolding digits
returns-clause-declared_type c = refl

pub returns-clause-definition : goal.returns-clause-definition
unfolding digits
returns-clause-definition c = refl

pub returns-clause-lemma : goal.returns-clause-lemma
unfolding digits
returns-clause-lemma c = refl
