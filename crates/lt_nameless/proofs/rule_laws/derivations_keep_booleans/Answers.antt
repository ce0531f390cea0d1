use Rattle.lt_nameless.proofs.BooleanSteps.{derivations_keep_booleans}
use Rattle.lt_nameless.proofs.rule_laws.derivations_keep_booleans.Goals as goal

pub returns : goal.returns
returns c = derivations_keep_booleans
