use Rattle.lt_grammar.proofs.WrongExamples.{byte_is_wrong}
use Rattle.lt_grammar.proofs.examples.wrong_byte.Goals as goal

pub returns : goal.returns
returns c = byte_is_wrong
