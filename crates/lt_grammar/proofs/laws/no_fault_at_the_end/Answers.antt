use Rattle.lt_grammar.proofs.FirstWrong.{fault_no_end}
use Rattle.lt_grammar.proofs.laws.no_fault_at_the_end.Goals as goal

pub returns : goal.returns
returns c = fault_no_end
