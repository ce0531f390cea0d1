use Rattle.lt_programs.proofs.DerivationLemmas.{unfolded-and, introduced-and, left-and, right-and}
use Rattle.lt_programs.proofs.laws.conjunctions_are_derived.Goals as goal

pub returns-clause-unfolded : goal.returns-clause-unfolded
returns-clause-unfolded c = unfolded-and

pub returns-clause-introduced : goal.returns-clause-introduced
returns-clause-introduced c = introduced-and

pub returns-clause-left : goal.returns-clause-left
returns-clause-left c = left-and

pub returns-clause-right : goal.returns-clause-right
returns-clause-right c = right-and
