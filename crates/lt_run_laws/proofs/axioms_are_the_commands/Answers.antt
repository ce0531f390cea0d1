use Rattle.lt_run_laws.proofs.AxiomWalks.{axioms-of-walk}
use Rattle.lt_run_laws.proofs.axioms_are_the_commands.Goals as goal

pub returns : goal.returns
returns c = axioms-of-walk
