use Rattle.lt_grammar.proofs.Placed.{one_placed}
use Rattle.lt_grammar.proofs.laws.one_placed_command.Goals as goal

pub returns : goal.returns
returns c = one_placed
