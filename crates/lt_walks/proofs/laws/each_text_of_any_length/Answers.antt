use Rattle.lt_walks.proofs.PlainWalkLemmas.{each_text_check}
use Rattle.lt_walks.proofs.laws.each_text_of_any_length.Goals as goal

pub returns : goal.returns
returns c = each_text_check
