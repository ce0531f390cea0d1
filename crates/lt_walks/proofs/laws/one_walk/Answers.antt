use Rattle.lt_walks.proofs.PlainWalkLemmas.{one_check}
use Rattle.lt_walks.proofs.laws.one_walk.Goals as goal

pub returns : goal.returns
returns c = one_check
