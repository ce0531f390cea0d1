use Rattle.lt_grammar.proofs.WithBytes.{what_goes_on}
use Rattle.lt_grammar.proofs.viability.what_goes_on_has_bytes.Goals as goal

pub returns : goal.returns
returns c = what_goes_on
