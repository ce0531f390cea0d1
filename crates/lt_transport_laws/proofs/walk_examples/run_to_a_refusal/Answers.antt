use Rattle.lt_transport_laws.proofs.RunExample.{runs-to-refusal}
use Rattle.lt_transport_laws.proofs.walk_examples.run_to_a_refusal.Goals as goal

pub returns : goal.returns
returns c = runs-to-refusal
