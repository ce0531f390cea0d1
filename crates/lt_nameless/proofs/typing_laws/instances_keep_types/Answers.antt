use Rattle.lt_nameless.proofs.TypeLaws.{instances_keep_types}
use Rattle.lt_nameless.proofs.typing_laws.instances_keep_types.Goals as goal

pub returns : goal.returns
returns c = instances_keep_types
