use Rattle.lt_texts.proofs.Readings.{no_bad_byte}
use Rattle.lt_texts.proofs.reading.utf8_has_no_bad_byte.Goals as goal

pub returns : goal.returns
returns c = no_bad_byte
