use Rattle.std.proofs.Common.{refl}
use Rattle.lt_laws.proofs.instance_laws.quotients.Goals as goal

pub returns-clause-quotient_lift : goal.returns-clause-quotient_lift
returns-clause-quotient_lift c = λ m R A B T t c'. refl

pub returns-clause-quotient_right_total : goal.returns-clause-quotient_right_total
returns-clause-quotient_right_total c = λ m R A B T. refl

pub returns-clause-quotient_right_unique : goal.returns-clause-quotient_right_unique
returns-clause-quotient_right_unique c = λ m R A B T. refl

pub returns-clause-quotient_rel : goal.returns-clause-quotient_rel
returns-clause-quotient_rel c = λ m R A B T. refl

pub returns-clause-quotient_domain : goal.returns-clause-quotient_domain
returns-clause-quotient_domain c = λ m R A B T. refl

pub returns-clause-quotient_rep : goal.returns-clause-quotient_rep
returns-clause-quotient_rep c = λ m R A B T. refl
