use Rattle.lt_grammar.proofs.TextLaws.{command_goes_on}
use Rattle.lt_grammar.proofs.laws.command_goes_on.Goals as goal

pub returns : goal.returns
returns c = command_goes_on
