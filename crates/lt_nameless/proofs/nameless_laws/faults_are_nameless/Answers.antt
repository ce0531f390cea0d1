use Rattle.lt_nameless.proofs.NamelessSteps.{faults_are_nameless}
use Rattle.lt_nameless.proofs.nameless_laws.faults_are_nameless.Goals as goal

pub returns : goal.returns
returns c = faults_are_nameless
