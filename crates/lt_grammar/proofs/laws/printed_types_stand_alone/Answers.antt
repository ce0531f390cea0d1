use Rattle.lt_grammar.proofs.PrintedAlone.{printed_type_alone}
use Rattle.lt_grammar.proofs.laws.printed_types_stand_alone.Goals as goal

pub returns : goal.returns
returns c = printed_type_alone
