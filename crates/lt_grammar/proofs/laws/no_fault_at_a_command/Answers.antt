use Rattle.lt_grammar.proofs.FirstWrong.{fault_no_command}
use Rattle.lt_grammar.proofs.laws.no_fault_at_a_command.Goals as goal

pub returns : goal.returns
returns c = fault_no_command
