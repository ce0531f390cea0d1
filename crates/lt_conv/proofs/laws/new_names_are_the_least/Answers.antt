use Rattle.lt_conv.proofs.NewNames.{new_name-first}
use Rattle.lt_conv.proofs.laws.new_names_are_the_least.Goals as goal

pub returns : goal.returns
returns c = new_name-first
