use Rattle.lt_grammar.proofs.FirstWrong.{one_command}
use Rattle.lt_grammar.proofs.laws.one_command.Goals as goal

pub returns : goal.returns
returns c = one_command
