use Rattle.std.proofs.Common.{refl}
use Rattle.lt_laws.proofs.instance_laws.typedefs.Goals as goal

pub returns-clause-typedef_quotient : goal.returns-clause-typedef_quotient
returns-clause-typedef_quotient c = λ m P A B T. refl

pub returns-clause-typedef_bi_unique : goal.returns-clause-typedef_bi_unique
returns-clause-typedef_bi_unique c = λ m A B T. refl

pub returns-clause-typedef_domain : goal.returns-clause-typedef_domain
returns-clause-typedef_domain c = λ m P A B T. refl

pub returns-clause-typedef_rep_abs : goal.returns-clause-typedef_rep_abs
returns-clause-typedef_rep_abs c = λ m P A B T x. refl
