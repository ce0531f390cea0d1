use Rattle.lt_nameless.proofs.MoreStatements.{derivation_over_more}
use Rattle.lt_nameless.proofs.rule_laws.derivation_over_more.Goals as goal

pub returns : goal.returns
returns c = derivation_over_more
