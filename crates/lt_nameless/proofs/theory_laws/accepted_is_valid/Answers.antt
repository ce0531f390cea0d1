use Rattle.lt_nameless.proofs.Refusals.{accepted_is_valid}
use Rattle.lt_nameless.proofs.theory_laws.accepted_is_valid.Goals as goal

pub returns : goal.returns
returns c = accepted_is_valid
