use Rattle.lt_transport_laws.proofs.NameLemmas.{names-added}
use Rattle.lt_transport_laws.proofs.names_are_added.Goals as goal

pub returns : goal.returns
returns c = names-added
