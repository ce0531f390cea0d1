use Rattle.lt_nameless.proofs.NamelessSteps.{step_is_nameless}
use Rattle.lt_nameless.proofs.nameless_laws.step_is_nameless.Goals as goal

pub returns : goal.returns
returns c = step_is_nameless
