use Rattle.lt_transport_laws.proofs.RegistriesStay.{stay-sound}
use Rattle.lt_transport_laws.proofs.session_laws.registries_stay_sound.Goals as goal

pub returns : goal.returns
returns c = stay-sound
