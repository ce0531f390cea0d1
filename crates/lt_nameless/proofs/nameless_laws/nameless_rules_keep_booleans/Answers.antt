use Rattle.lt_nameless.proofs.NamelessBooleans.{nameless_rules_keep_booleans}
use Rattle.lt_nameless.proofs.nameless_laws.nameless_rules_keep_booleans.Goals as goal

pub returns : goal.returns
returns c = nameless_rules_keep_booleans
