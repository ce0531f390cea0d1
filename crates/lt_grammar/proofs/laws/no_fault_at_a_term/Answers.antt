use Rattle.lt_grammar.proofs.Alone.{term_no_fault}
use Rattle.lt_grammar.proofs.laws.no_fault_at_a_term.Goals as goal

pub returns : goal.returns
returns c = term_no_fault
