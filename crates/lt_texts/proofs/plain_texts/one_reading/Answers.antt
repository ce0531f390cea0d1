use Rattle.lt_texts.proofs.OneReading.{one_reading}
use Rattle.lt_texts.proofs.plain_texts.one_reading.Goals as goal

pub returns : goal.returns
returns c = one_reading
