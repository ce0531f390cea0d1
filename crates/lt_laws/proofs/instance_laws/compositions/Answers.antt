use Rattle.std.proofs.Common.{refl}
use Rattle.lt_laws.proofs.instance_laws.compositions.Goals as goal

pub returns-clause-relcompp_intro : goal.returns-clause-relcompp_intro
returns-clause-relcompp_intro c = λ m R S x y z. refl

pub returns-clause-relcompp_eq_left : goal.returns-clause-relcompp_eq_left
returns-clause-relcompp_eq_left c = λ m T. refl

pub returns-clause-relcompp_eq_right : goal.returns-clause-relcompp_eq_right
returns-clause-relcompp_eq_right c = λ m R. refl

pub returns-clause-relcompp_assoc : goal.returns-clause-relcompp_assoc
returns-clause-relcompp_assoc c = λ m R S T. refl
