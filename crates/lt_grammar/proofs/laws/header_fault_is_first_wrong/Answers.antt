use Rattle.lt_grammar.proofs.FirstWrong.{header_is_first_wrong}
use Rattle.lt_grammar.proofs.laws.header_fault_is_first_wrong.Goals as goal

pub returns : goal.returns
returns c = header_is_first_wrong
