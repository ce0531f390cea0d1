use Rattle.lt_nameless.proofs.AlphaLaws.{alpha_is_reflexive, alpha_is_symmetric, alpha_is_transitive}
use Rattle.lt_nameless.proofs.alpha_laws.alpha_is_an_equivalence.Goals as goal

pub returns-clause-reflexive : goal.returns-clause-reflexive
returns-clause-reflexive c = alpha_is_reflexive

pub returns-clause-symmetric : goal.returns-clause-symmetric
returns-clause-symmetric c = alpha_is_symmetric

pub returns-clause-transitive : goal.returns-clause-transitive
returns-clause-transitive c = alpha_is_transitive
