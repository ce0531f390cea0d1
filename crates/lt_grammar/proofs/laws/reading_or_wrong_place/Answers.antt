use Rattle.lt_grammar.proofs.EachPlace.{each_text}
use Rattle.lt_grammar.proofs.laws.reading_or_wrong_place.Goals as goal

pub returns : goal.returns
returns c = each_text
