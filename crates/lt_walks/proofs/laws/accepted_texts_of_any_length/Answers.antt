use Rattle.lt_walks.proofs.PlainWalkLemmas.{text_exactly}
use Rattle.lt_walks.proofs.laws.accepted_texts_of_any_length.Goals as goal

pub returns : goal.returns
returns c = text_exactly
