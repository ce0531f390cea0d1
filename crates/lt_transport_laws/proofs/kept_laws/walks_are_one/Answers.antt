use Rattle.lt_transport_laws.proofs.OneEnd.{walk-one, runs-one}
use Rattle.lt_transport_laws.proofs.kept_laws.walks_are_one.Goals as goal

pub returns : goal.returns
returns c = record { walk = walk-one; run = runs-one }
