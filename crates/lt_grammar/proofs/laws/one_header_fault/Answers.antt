use Rattle.lt_grammar.proofs.Alone.{one_header_fault}
use Rattle.lt_grammar.proofs.laws.one_header_fault.Goals as goal

pub returns : goal.returns
returns c = one_header_fault
