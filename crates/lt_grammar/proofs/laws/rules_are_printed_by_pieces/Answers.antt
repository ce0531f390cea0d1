use Rattle.lt_grammar.proofs.PrintedPieces.{printed_rule_pieces}
use Rattle.lt_grammar.proofs.laws.rules_are_printed_by_pieces.Goals as goal

pub returns : goal.returns
returns c = printed_rule_pieces
