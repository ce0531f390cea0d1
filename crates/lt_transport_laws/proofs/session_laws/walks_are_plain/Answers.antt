use Rattle.lt_transport_laws.proofs.PlainWalks.{walks-plain, runs-plain}
use Rattle.lt_transport_laws.proofs.session_laws.walks_are_plain.Goals as goal

pub returns : goal.returns
returns c = record { walk = walks-plain; run = runs-plain }
