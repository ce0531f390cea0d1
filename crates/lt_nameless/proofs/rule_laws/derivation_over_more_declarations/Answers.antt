use Rattle.lt_nameless.proofs.MoreDeclarations.{derivation_over_more_declarations}
use Rattle.lt_nameless.proofs.rule_laws.derivation_over_more_declarations.Goals as goal

pub returns : goal.returns
returns c = derivation_over_more_declarations
