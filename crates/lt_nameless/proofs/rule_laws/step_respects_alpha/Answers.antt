use Rattle.lt_nameless.proofs.AlphaSteps.{step_respects_alpha}
use Rattle.lt_nameless.proofs.rule_laws.step_respects_alpha.Goals as goal

pub returns : goal.returns
returns c = step_respects_alpha
