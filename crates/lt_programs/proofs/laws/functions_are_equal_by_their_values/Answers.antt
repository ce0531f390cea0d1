use Rattle.lt_programs.proofs.ExtensionalityLemmas.{value-function, contracted-by, functions-derived}
use Rattle.lt_programs.proofs.laws.functions_are_equal_by_their_values.Goals as goal

pub returns-clause-value : goal.returns-clause-value
returns-clause-value c = value-function

pub returns-clause-contracted : goal.returns-clause-contracted
returns-clause-contracted c = contracted-by

pub returns-clause-derived : goal.returns-clause-derived
returns-clause-derived c = functions-derived
