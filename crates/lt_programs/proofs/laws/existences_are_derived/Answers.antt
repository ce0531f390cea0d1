use Rattle.lt_programs.proofs.DerivationLemmas.{unfolded-ex, introduced-ex, chosen-ex}
use Rattle.lt_programs.proofs.laws.existences_are_derived.Goals as goal

pub returns-clause-unfolded : goal.returns-clause-unfolded
returns-clause-unfolded c = unfolded-ex

pub returns-clause-introduced : goal.returns-clause-introduced
returns-clause-introduced c = introduced-ex

pub returns-clause-chosen : goal.returns-clause-chosen
returns-clause-chosen c = chosen-ex
