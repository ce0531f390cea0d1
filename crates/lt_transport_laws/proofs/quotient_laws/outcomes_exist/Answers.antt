use Rattle.lt_transport_laws.proofs.SomeOutcome.{outcomes-exist}
use Rattle.lt_transport_laws.proofs.quotient_laws.outcomes_exist.Goals as goal

pub returns : goal.returns
returns c = outcomes-exist
