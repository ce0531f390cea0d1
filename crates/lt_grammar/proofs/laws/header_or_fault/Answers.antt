use Rattle.lt_grammar.proofs.EachPlace.{header_or_fault}
use Rattle.lt_grammar.proofs.laws.header_or_fault.Goals as goal

pub returns : goal.returns
returns c = header_or_fault
