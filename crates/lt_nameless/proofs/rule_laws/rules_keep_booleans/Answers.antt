use Rattle.lt_nameless.proofs.BooleanSteps.{rules_keep_booleans}
use Rattle.lt_nameless.proofs.rule_laws.rules_keep_booleans.Goals as goal

pub returns : goal.returns
returns c = rules_keep_booleans
