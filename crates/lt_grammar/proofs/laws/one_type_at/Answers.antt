use Rattle.lt_grammar.proofs.Alone.{one_type_at}
use Rattle.lt_grammar.proofs.laws.one_type_at.Goals as goal

pub returns : goal.returns
returns c = one_type_at
