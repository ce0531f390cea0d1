use Rattle.lt_texts.proofs.OneReading.{one_lexing}
use Rattle.lt_texts.proofs.plain_texts.one_lexing.Goals as goal

pub returns : goal.returns
returns c = one_lexing
