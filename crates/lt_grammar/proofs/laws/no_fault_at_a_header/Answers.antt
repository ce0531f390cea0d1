use Rattle.lt_grammar.proofs.Alone.{header_no_fault}
use Rattle.lt_grammar.proofs.laws.no_fault_at_a_header.Goals as goal

pub returns : goal.returns
returns c = header_no_fault
