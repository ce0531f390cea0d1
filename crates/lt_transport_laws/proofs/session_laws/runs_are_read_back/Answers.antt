use Rattle.lt_transport_laws.proofs.TextLines.{runs-read}
use Rattle.lt_transport_laws.proofs.session_laws.runs_are_read_back.Goals as goal

pub returns : goal.returns
returns c = runs-read
