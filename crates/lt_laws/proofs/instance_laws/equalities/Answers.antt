use Rattle.std.proofs.Common.{refl}
use Rattle.lt_laws.proofs.instance_laws.equalities.Goals as goal

pub returns-clause-left_total_eq : goal.returns-clause-left_total_eq
returns-clause-left_total_eq c = λ m. refl

pub returns-clause-right_total_eq : goal.returns-clause-right_total_eq
returns-clause-right_total_eq c = λ m. refl

pub returns-clause-left_unique_eq : goal.returns-clause-left_unique_eq
returns-clause-left_unique_eq c = λ m. refl

pub returns-clause-right_unique_eq : goal.returns-clause-right_unique_eq
returns-clause-right_unique_eq c = λ m. refl

pub returns-clause-bi_total_eq : goal.returns-clause-bi_total_eq
returns-clause-bi_total_eq c = λ m. refl

pub returns-clause-bi_unique_eq : goal.returns-clause-bi_unique_eq
returns-clause-bi_unique_eq c = λ m. refl
