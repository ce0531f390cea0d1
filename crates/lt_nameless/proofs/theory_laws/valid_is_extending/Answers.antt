use Rattle.lt_nameless.proofs.LaterItems.{valid_is_extending}
use Rattle.lt_nameless.proofs.theory_laws.valid_is_extending.Goals as goal

pub returns : goal.returns
returns c = valid_is_extending
