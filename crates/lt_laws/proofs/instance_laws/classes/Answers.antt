use Rattle.std.proofs.Common.{refl}
use Rattle.lt_laws.proofs.instance_laws.classes.Goals as goal

pub returns-clause-class_nonempty : goal.returns-clause-class_nonempty
returns-clause-class_nonempty c = λ m R. refl

pub returns-clause-class_quotient : goal.returns-clause-class_quotient
returns-clause-class_quotient c = λ m R K L A B T. refl
