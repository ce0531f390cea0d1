use Rattle.lt_grammar.proofs.Placed.{placed_is_next}
use Rattle.lt_grammar.proofs.laws.placed_commands_are_commands.Goals as goal

pub returns : goal.returns
returns c = placed_is_next
