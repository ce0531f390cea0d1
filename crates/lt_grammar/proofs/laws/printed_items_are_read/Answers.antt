use Rattle.lt_grammar.proofs.PrintedItems.{printed_items_are_read}
use Rattle.lt_grammar.proofs.laws.printed_items_are_read.Goals as goal

pub returns : goal.returns
returns c = printed_items_are_read
