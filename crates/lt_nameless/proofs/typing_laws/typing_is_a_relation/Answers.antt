use Rattle.lt_nameless.proofs.Typings.{typing_is_a_relation}
use Rattle.lt_nameless.proofs.typing_laws.typing_is_a_relation.Goals as goal

pub returns : goal.returns
returns c = typing_is_a_relation
