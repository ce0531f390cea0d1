use Rattle.lt_walks.proofs.PlainWalkLemmas.{accepted_exactly}
use Rattle.lt_walks.proofs.laws.accepted_texts_are_plain_theories.Goals as goal

pub returns : goal.returns
returns c = accepted_exactly
