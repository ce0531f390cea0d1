use Rattle.lt_texts.proofs.NextTokens.{spelt_read}
use Rattle.lt_texts.proofs.lexical.spelt_tokens_are_read.Goals as goal

pub returns : goal.returns
returns c = spelt_read
