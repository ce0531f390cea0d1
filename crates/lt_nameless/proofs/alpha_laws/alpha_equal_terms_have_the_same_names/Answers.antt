use Rattle.lt_nameless.proofs.AlphaLaws.{alpha_keeps_free_variables, alpha_keeps_loose_names}
use Rattle.lt_nameless.proofs.alpha_laws.alpha_equal_terms_have_the_same_names.Goals as goal

pub returns-clause-free : goal.returns-clause-free
returns-clause-free c = alpha_keeps_free_variables

pub returns-clause-loose : goal.returns-clause-loose
returns-clause-loose c = alpha_keeps_loose_names
