use Rattle.lt_nameless.proofs.TypeLaws.{replacing_keeps_types}
use Rattle.lt_nameless.proofs.typing_laws.replacing_keeps_types.Goals as goal

pub returns : goal.returns
returns c = replacing_keeps_types
