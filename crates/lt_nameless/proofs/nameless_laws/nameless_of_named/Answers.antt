use Rattle.lt_nameless.proofs.ClosedForms.{nameless_of_named}
use Rattle.lt_nameless.proofs.nameless_laws.nameless_of_named.Goals as goal

pub returns : goal.returns
returns c = nameless_of_named
