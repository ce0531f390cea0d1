use Rattle.std.proofs.Common.{refl}
use Rattle.std.specs.Fmt.{digits}
use Rattle.lt_definitions.proofs.printing_examples.printed_items.Goals as goal

pub returns-clause-lemma : goal.returns-clause-lemma
unfolding digits
returns-clause-lemma c = refl

pub returns-clause-count : goal.returns-clause-count
unfolding digits
returns-clause-count c = refl
