use Rattle.lt_nameless.proofs.TypeLaws.{closing_keeps_types}
use Rattle.lt_nameless.proofs.typing_laws.closing_keeps_types.Goals as goal

pub returns : goal.returns
returns c = closing_keeps_types
