use Rattle.lt_nameless.proofs.AlphaLaws.{alpha_kept_by_closing}
use Rattle.lt_nameless.proofs.alpha_laws.alpha_kept_by_closing.Goals as goal

pub returns : goal.returns
returns c = alpha_kept_by_closing
