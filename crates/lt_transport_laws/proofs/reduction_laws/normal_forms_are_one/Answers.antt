use Rattle.lt_transport_laws.proofs.NormalForms.{normal-one, limits-one, normal-or-limit}
use Rattle.lt_transport_laws.proofs.reduction_laws.normal_forms_are_one.Goals as goal

pub returns-clause-normal : goal.returns-clause-normal
returns-clause-normal c = normal-one

pub returns-clause-limit : goal.returns-clause-limit
returns-clause-limit c = limits-one

pub returns-clause-either : goal.returns-clause-either
returns-clause-either c = normal-or-limit
