use Rattle.std.proofs.Common.{refl}
use Rattle.lt_laws.proofs.InstanceLemmas.{accepted-form}
use Rattle.lt_laws.proofs.session_laws.laws_are_the_sessions.Goals as goal

pub returns-clause-registered : goal.returns-clause-registered
returns-clause-registered c = λ s w l. refl

pub returns-clause-missing : goal.returns-clause-missing
returns-clause-missing c = λ s names. refl

pub returns-clause-accepted : goal.returns-clause-accepted
returns-clause-accepted c = accepted-form
