use Rattle.lt_nameless.proofs.TypeLaws.{types_of_terms_are_sound}
use Rattle.lt_nameless.proofs.typing_laws.types_of_terms_are_sound.Goals as goal

pub returns : goal.returns
returns c = types_of_terms_are_sound
