use Rattle.lt_transport_laws.proofs.ImageTypes.{images-typed}
use Rattle.lt_transport_laws.proofs.image_laws.images_are_typed.Goals as goal

pub returns : goal.returns
returns c = images-typed
