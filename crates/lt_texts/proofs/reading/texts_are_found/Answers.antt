use Rattle.lt_texts.proofs.Readings.{texts_are_found}
use Rattle.lt_texts.proofs.reading.texts_are_found.Goals as goal

pub returns : goal.returns
returns c = texts_are_found
