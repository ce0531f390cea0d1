use Rattle.lt_nameless.proofs.ClosedForms.{typed_is_whole}
use Rattle.lt_nameless.proofs.nameless_laws.typed_is_whole.Goals as goal

pub returns : goal.returns
returns c = typed_is_whole
