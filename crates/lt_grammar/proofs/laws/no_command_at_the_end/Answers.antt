use Rattle.lt_grammar.proofs.FirstWrong.{command_no_end}
use Rattle.lt_grammar.proofs.laws.no_command_at_the_end.Goals as goal

pub returns : goal.returns
returns c = command_no_end
