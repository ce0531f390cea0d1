use Rattle.lt_nameless.proofs.LaterItems.{derivation_over_later_items}
use Rattle.lt_nameless.proofs.rule_laws.derivation_over_later_items.Goals as goal

pub returns : goal.returns
returns c = derivation_over_later_items
