use Rattle.lt_grammar.proofs.Alone.{one_header}
use Rattle.lt_grammar.proofs.laws.one_header.Goals as goal

pub returns : goal.returns
returns c = one_header
