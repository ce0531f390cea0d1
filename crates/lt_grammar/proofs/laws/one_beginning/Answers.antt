use Rattle.lt_grammar.proofs.EachPlace.{one_beginning}
use Rattle.lt_grammar.proofs.laws.one_beginning.Goals as goal

pub returns : goal.returns
returns c = one_beginning
