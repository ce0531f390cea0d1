use Rattle.lt_grammar.proofs.TextLaws.{end_has_commands}
use Rattle.lt_grammar.proofs.laws.end_has_commands.Goals as goal

pub returns : goal.returns
returns c = end_has_commands
