use Rattle.lt_nameless.proofs.Matching.{instance_matches}
use Rattle.lt_nameless.proofs.typing_laws.instance_matches.Goals as goal

pub returns : goal.returns
returns c = instance_matches
