use Rattle.lt_grammar.proofs.WrongExamples.{law_is_wrong}
use Rattle.lt_grammar.proofs.examples.wrong_command.Goals as goal

pub returns : goal.returns
returns c = law_is_wrong
