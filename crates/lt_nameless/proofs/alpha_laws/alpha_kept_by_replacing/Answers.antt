use Rattle.lt_nameless.proofs.AlphaLaws.{alpha_kept_by_replacing}
use Rattle.lt_nameless.proofs.alpha_laws.alpha_kept_by_replacing.Goals as goal

pub returns : goal.returns
returns c = alpha_kept_by_replacing
