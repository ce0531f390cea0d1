use Rattle.lt_nameless.proofs.Closings.{closing_is_one}
use Rattle.lt_nameless.proofs.alpha_laws.closing_is_one.Goals as goal

pub returns : goal.returns
returns c = closing_is_one
