use Rattle.lt_programs.proofs.Renamed.{puts-renamed}
use Rattle.lt_programs.proofs.laws.types_are_put_at_once.Goals as goal

pub returns : goal.returns
returns c = puts-renamed
