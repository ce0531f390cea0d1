use Rattle.lt_nameless.proofs.Matching.{match_is_one}
use Rattle.lt_nameless.proofs.typing_laws.match_is_one.Goals as goal

pub returns : goal.returns
returns c = match_is_one
