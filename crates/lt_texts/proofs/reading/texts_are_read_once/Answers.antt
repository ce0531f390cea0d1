use Rattle.lt_texts.proofs.Readings.{read_once}
use Rattle.lt_texts.proofs.reading.texts_are_read_once.Goals as goal

pub returns : goal.returns
returns c = read_once
