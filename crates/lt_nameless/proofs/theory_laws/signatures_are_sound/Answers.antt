use Rattle.lt_nameless.proofs.BooleanSteps.{signatures_are_sound}
use Rattle.lt_nameless.proofs.theory_laws.signatures_are_sound.Goals as goal

pub returns : goal.returns
returns c = signatures_are_sound
