use Rattle.lt_nameless.proofs.ClosedSteps.{step_stays_whole}
use Rattle.lt_nameless.proofs.nameless_laws.step_stays_whole.Goals as goal

pub returns : goal.returns
returns c = step_stays_whole
