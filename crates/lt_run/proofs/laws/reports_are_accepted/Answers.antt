use Rattle.lt_run.proofs.Reports.{runs_read_back}
use Rattle.lt_run.proofs.laws.reports_are_accepted.Goals as goal

pub returns : goal.returns
returns c = runs_read_back
