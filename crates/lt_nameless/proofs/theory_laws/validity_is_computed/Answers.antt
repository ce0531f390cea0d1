use Rattle.lt_nameless.proofs.LaterItems.{validity_is_computed}
use Rattle.lt_nameless.proofs.theory_laws.validity_is_computed.Goals as goal

pub returns : goal.returns
returns c = validity_is_computed
