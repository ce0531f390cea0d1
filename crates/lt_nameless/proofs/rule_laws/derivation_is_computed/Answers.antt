use Rattle.lt_nameless.proofs.Derived.{derivation_is_computed}
use Rattle.lt_nameless.proofs.rule_laws.derivation_is_computed.Goals as goal

pub returns : goal.returns
returns c = derivation_is_computed
