use Rattle.lt_transport_laws.proofs.OneSummary.{summary-one}
use Rattle.lt_transport_laws.proofs.kept_laws.runs_have_one_summary.Goals as goal

pub returns : goal.returns
returns c = summary-one
