use Rattle.lt_derived.proofs.DerivedSound.{derived-sound}
use Rattle.lt_derived.proofs.soundness.sound.Goals as goal

pub returns : goal.returns
returns g c = derived-sound c.args.proof.now c.requires.signature c.requires.statements c.steps.ensures.derived
