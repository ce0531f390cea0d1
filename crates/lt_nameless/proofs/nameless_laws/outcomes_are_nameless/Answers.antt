use Rattle.lt_nameless.proofs.Outcomes.{outcomes_are_nameless}
use Rattle.lt_nameless.proofs.nameless_laws.outcomes_are_nameless.Goals as goal

pub returns : goal.returns
returns c = outcomes_are_nameless
