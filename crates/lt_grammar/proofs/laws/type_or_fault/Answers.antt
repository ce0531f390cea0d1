use Rattle.lt_grammar.proofs.Alone.{type_or_fault}
use Rattle.lt_grammar.proofs.laws.type_or_fault.Goals as goal

pub returns : goal.returns
returns c = type_or_fault
