use Rattle.lt_grammar.proofs.WrongExamples.{char_is_wrong}
use Rattle.lt_grammar.proofs.examples.wrong_character.Goals as goal

pub returns : goal.returns
returns c = char_is_wrong
