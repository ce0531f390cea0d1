use Rattle.lt_grammar.proofs.WrongExamples.{term_is_wrong}
use Rattle.lt_grammar.proofs.examples.wrong_term.Goals as goal

pub returns : goal.returns
returns c = term_is_wrong
