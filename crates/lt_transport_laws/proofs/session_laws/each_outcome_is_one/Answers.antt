use Rattle.lt_transport_laws.proofs.OneTransport.{each-one}
use Rattle.lt_transport_laws.proofs.session_laws.each_outcome_is_one.Goals as goal

pub returns : goal.returns
returns c = each-one
