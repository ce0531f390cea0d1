use Rattle.lt_grammar.proofs.TextLaws.{header_begins}
use Rattle.lt_grammar.proofs.laws.header_begins.Goals as goal

pub returns : goal.returns
returns c = header_begins
