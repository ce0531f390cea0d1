use Rattle.std.proofs.Common.{refl}
use Rattle.lt_laws.proofs.instance_laws.compound_quotients.Goals as goal

pub returns-clause-id_quotient : goal.returns-clause-id_quotient
returns-clause-id_quotient c = λ m. refl

pub returns-clause-fun_quotient : goal.returns-clause-fun_quotient
returns-clause-fun_quotient c = λ m R1 A1 B1 T1 R2 A2 B2 T2. refl

pub returns-clause-quotient_compose : goal.returns-clause-quotient_compose
returns-clause-quotient_compose c = λ m R1 A1 B1 T1 R2 A2 B2 T2. refl

pub returns-clause-abs_eq_step : goal.returns-clause-abs_eq_step
returns-clause-abs_eq_step c = λ m R1 A1 B1 T1 R2 A2 B2 T2 t x. refl
