use Rattle.lt_walks.proofs.PlainWalkLemmas.{one_text_check}
use Rattle.lt_walks.proofs.laws.one_walk_of_any_length.Goals as goal

pub returns : goal.returns
returns c = one_text_check
