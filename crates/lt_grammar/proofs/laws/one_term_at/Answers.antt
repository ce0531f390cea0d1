use Rattle.lt_grammar.proofs.Alone.{one_term_at}
use Rattle.lt_grammar.proofs.laws.one_term_at.Goals as goal

pub returns : goal.returns
returns c = one_term_at
