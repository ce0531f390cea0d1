use Rattle.std.proofs.Common.{refl}
use Rattle.std.specs.Fmt.{digits}
use Rattle.lt_transport_definitions.proofs.refusal_examples.other_relations.Goals as goal

pub returns-clause-open : goal.returns-clause-open
unfolding digits
returns-clause-open c = refl

pub returns-clause-relation : goal.returns-clause-relation
unfolding digits
returns-clause-relation c = refl

pub returns-clause-shape : goal.returns-clause-shape
unfolding digits
returns-clause-shape c = refl

pub returns-clause-bare : goal.returns-clause-bare
unfolding digits
returns-clause-bare c = refl

pub returns-clause-loose : goal.returns-clause-loose
unfolding digits
returns-clause-loose c = refl

pub returns-clause-twice : goal.returns-clause-twice
unfolding digits
returns-clause-twice c = refl
