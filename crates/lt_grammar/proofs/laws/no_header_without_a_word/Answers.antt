use Rattle.lt_grammar.proofs.Alone.{no_header_stands}
use Rattle.lt_grammar.proofs.laws.no_header_without_a_word.Goals as goal

pub returns : goal.returns
returns c = no_header_stands
