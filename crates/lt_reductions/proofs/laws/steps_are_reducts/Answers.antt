use Rattle.lt_reductions.proofs.NamedSteps.{steps-reduct}
use Rattle.lt_reductions.proofs.laws.steps_are_reducts.Goals as goal

pub returns : goal.returns
returns c = steps-reduct
