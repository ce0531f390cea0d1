use Rattle.lt_transport_laws.proofs.OneWalk.{session-one}
use Rattle.lt_transport_laws.proofs.session_laws.sessions_are_one.Goals as goal

pub returns : goal.returns
returns c = session-one
