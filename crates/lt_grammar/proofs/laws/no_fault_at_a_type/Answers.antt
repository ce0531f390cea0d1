use Rattle.lt_grammar.proofs.Alone.{type_no_fault}
use Rattle.lt_grammar.proofs.laws.no_fault_at_a_type.Goals as goal

pub returns : goal.returns
returns c = type_no_fault
