use Rattle.lt_nameless.proofs.BooleanSteps.{typed-alpha}
use Rattle.lt_nameless.proofs.alpha_laws.alpha_equal_terms_have_one_type.Goals as goal

pub returns : goal.returns
returns c = typed-alpha
