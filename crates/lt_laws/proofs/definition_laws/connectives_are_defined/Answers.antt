use Rattle.std.proofs.Common.{refl}
use Rattle.lt_laws.proofs.definition_laws.connectives_are_defined.Goals as goal

pub returns-clause-conjunction : goal.returns-clause-conjunction
returns-clause-conjunction c = refl

pub returns-clause-existence : goal.returns-clause-existence
returns-clause-existence c = refl
