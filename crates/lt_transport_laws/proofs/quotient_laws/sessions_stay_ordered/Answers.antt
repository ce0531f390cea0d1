use Rattle.lt_transport_laws.proofs.OrderedSessions.{new-ordered, stay-ordered, have-quotients}
use Rattle.lt_transport_laws.proofs.quotient_laws.sessions_stay_ordered.Goals as goal

pub returns : goal.returns
returns c = record { new = new-ordered; kept = stay-ordered; exist = have-quotients }
