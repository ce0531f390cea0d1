use Rattle.lt_grammar.proofs.WrongExamples.{header_is_wrong, header_again_is_wrong}
use Rattle.lt_grammar.proofs.examples.wrong_header.Goals as goal

pub returns-clause-first : goal.returns-clause-first
returns-clause-first c = header_is_wrong

pub returns-clause-again : goal.returns-clause-again
returns-clause-again c = header_again_is_wrong
