use Rattle.lt_grammar.proofs.FirstWrong.{fault_is_first_wrong}
use Rattle.lt_grammar.proofs.laws.fault_is_first_wrong.Goals as goal

pub returns : goal.returns
returns c = fault_is_first_wrong
