use Rattle.lt_texts.proofs.Readings.{lexemes_are_found}
use Rattle.lt_texts.proofs.reading.lexemes_are_found.Goals as goal

pub returns : goal.returns
returns c = lexemes_are_found
