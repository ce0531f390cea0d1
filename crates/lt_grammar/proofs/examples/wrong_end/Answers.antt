use Rattle.lt_grammar.proofs.WrongExamples.{end_is_wrong}
use Rattle.lt_grammar.proofs.examples.wrong_end.Goals as goal

pub returns : goal.returns
returns c = end_is_wrong
