use Rattle.lt_grammar.proofs.TextLaws.{one_term_reading}
use Rattle.lt_grammar.proofs.laws.one_term.Goals as goal

pub returns : goal.returns
returns c = one_term_reading
