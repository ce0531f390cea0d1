use Rattle.lt_grammar.proofs.Placed.{next_is_placed}
use Rattle.lt_grammar.proofs.laws.commands_have_places.Goals as goal

pub returns : goal.returns
returns c = next_is_placed
