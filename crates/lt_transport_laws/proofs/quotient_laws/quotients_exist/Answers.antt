use Rattle.lt_transport_laws.proofs.QuotientsExist.{quotients-exist}
use Rattle.lt_transport_laws.proofs.quotient_laws.quotients_exist.Goals as goal

pub returns : goal.returns
returns c = quotients-exist
