use Rattle.lt_texts.proofs.Readings.{next_is_found}
use Rattle.lt_texts.proofs.reading.what_is_next_is_found.Goals as goal

pub returns : goal.returns
returns c = next_is_found
