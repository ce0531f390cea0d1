use Rattle.lt_grammar.proofs.TextLaws.{one_type_reading}
use Rattle.lt_grammar.proofs.laws.one_type.Goals as goal

pub returns : goal.returns
returns c = one_type_reading
