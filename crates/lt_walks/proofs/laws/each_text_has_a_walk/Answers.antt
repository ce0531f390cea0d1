use Rattle.lt_walks.proofs.PlainWalkLemmas.{each_check}
use Rattle.lt_walks.proofs.laws.each_text_has_a_walk.Goals as goal

pub returns : goal.returns
returns c = each_check
