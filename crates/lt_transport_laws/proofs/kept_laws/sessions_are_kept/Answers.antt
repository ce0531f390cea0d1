use Rattle.lt_transport_laws.proofs.KeptSessions.{new-kept, stay-kept, kept-scoped, kept-boolean}
use Rattle.lt_transport_laws.proofs.kept_laws.sessions_are_kept.Goals as goal

pub returns : goal.returns
returns c = record { new = new-kept; kept = stay-kept; scoped = kept-scoped; boolean = kept-boolean }
