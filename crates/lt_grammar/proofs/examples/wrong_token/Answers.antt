use Rattle.lt_grammar.proofs.WrongExamples.{bool_is_wrong}
use Rattle.lt_grammar.proofs.examples.wrong_token.Goals as goal

pub returns : goal.returns
returns c = bool_is_wrong
