use Rattle.lt_grammar.proofs.FirstWrong.{one_fault}
use Rattle.lt_grammar.proofs.laws.one_fault.Goals as goal

pub returns : goal.returns
returns c = one_fault
