use Rattle.lt_grammar.proofs.PrintedPieces.{printed_head_pieces}
use Rattle.lt_grammar.proofs.laws.items_are_printed_by_pieces.Goals as goal

pub returns : goal.returns
returns c = printed_head_pieces
