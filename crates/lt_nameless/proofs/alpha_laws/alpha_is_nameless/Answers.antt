use Rattle.lt_nameless.proofs.Alphas.{alpha_is_nameless}
use Rattle.lt_nameless.proofs.alpha_laws.alpha_is_nameless.Goals as goal

pub returns : goal.returns
returns c = alpha_is_nameless
