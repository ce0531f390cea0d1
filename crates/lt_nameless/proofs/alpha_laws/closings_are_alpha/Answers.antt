use Rattle.lt_nameless.proofs.Closings.{closings_are_alpha}
use Rattle.lt_nameless.proofs.alpha_laws.closings_are_alpha.Goals as goal

pub returns : goal.returns
returns c = closings_are_alpha
