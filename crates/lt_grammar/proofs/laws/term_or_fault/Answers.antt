use Rattle.lt_grammar.proofs.Alone.{term_or_fault}
use Rattle.lt_grammar.proofs.laws.term_or_fault.Goals as goal

pub returns : goal.returns
returns c = term_or_fault
