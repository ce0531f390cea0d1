use Rattle.lt_nameless.proofs.TypeLaws.{opening_keeps_types}
use Rattle.lt_nameless.proofs.typing_laws.opening_keeps_types.Goals as goal

pub returns : goal.returns
returns c = opening_keeps_types
