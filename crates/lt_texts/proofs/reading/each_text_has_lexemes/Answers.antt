use Rattle.lt_texts.proofs.Readings.{reads_out}
use Rattle.lt_texts.proofs.reading.each_text_has_lexemes.Goals as goal

pub returns : goal.returns
returns c = reads_out
