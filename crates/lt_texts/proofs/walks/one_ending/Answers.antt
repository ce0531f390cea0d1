use Rattle.lt_texts.proofs.OneEnding.{one_ending}
use Rattle.lt_texts.proofs.walks.one_ending.Goals as goal

pub returns : goal.returns
returns c = one_ending
