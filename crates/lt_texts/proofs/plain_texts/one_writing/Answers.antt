use Rattle.lt_texts.proofs.OneReading.{one_writing}
use Rattle.lt_texts.proofs.plain_texts.one_writing.Goals as goal

pub returns : goal.returns
returns c = one_writing
