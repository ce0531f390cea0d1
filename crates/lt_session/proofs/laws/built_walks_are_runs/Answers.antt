use Rattle.lt_session.proofs.TableWalks.{runs}
use Rattle.lt_session.proofs.Totals.{built_total}
use Rattle.lt_session.proofs.OneOutcome.{built_one}
use Rattle.lt_session.proofs.laws.built_walks_are_runs.Goals as goal

pub returns-clause-run : goal.returns-clause-run
returns-clause-run c = runs

pub returns-clause-total : goal.returns-clause-total
returns-clause-total c = built_total

pub returns-clause-one : goal.returns-clause-one
returns-clause-one c = built_one
