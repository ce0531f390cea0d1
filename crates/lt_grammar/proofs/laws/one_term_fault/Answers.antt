use Rattle.lt_grammar.proofs.Alone.{one_term_fault}
use Rattle.lt_grammar.proofs.laws.one_term_fault.Goals as goal

pub returns : goal.returns
returns c = one_term_fault
