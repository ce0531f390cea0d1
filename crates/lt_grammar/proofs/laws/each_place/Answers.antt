use Rattle.lt_grammar.proofs.EachPlace.{each_place}
use Rattle.lt_grammar.proofs.laws.each_place.Goals as goal

pub returns : goal.returns
returns c = each_place
