use Rattle.lt_transport_laws.proofs.InStep.{stay-in-step}
use Rattle.lt_transport_laws.proofs.session_laws.sessions_stay_in_step.Goals as goal

pub returns : goal.returns
returns c = stay-in-step
