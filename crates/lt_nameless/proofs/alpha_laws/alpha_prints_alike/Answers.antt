use Rattle.lt_nameless.proofs.PrintingLemmas.{alpha_prints_alike}
use Rattle.lt_nameless.proofs.alpha_laws.alpha_prints_alike.Goals as goal

pub returns : goal.returns
returns c = alpha_prints_alike
