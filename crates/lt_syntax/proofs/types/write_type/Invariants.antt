use Rattle.std.proofs.Common.{◌++◌}
use Rattle.lt_definitions.specs.Printing.{printed_type}
use Rattle.lt_types.specs.Layout.{type_nodes}
use Rattle.lt_syntax.specs.TypeText.{targets}
use Rattle.lt_syntax.proofs.TypePieces.{IsWriting, weights}
use Rattle.lt_syntax.proofs.types.write_type.Given as goal

abbrev pub invariant-loop-row : goal.invariant-loop-row
invariant-loop-row l = IsWriting (type_nodes 0 l.ty) (l.fn.text ++ printed_type l.ty) l.text (targets l.rows.items)

abbrev pub decreases-loop-row : goal.decreases-loop-row
decreases-loop-row l = weights (type_nodes 0 l.ty) (targets l.rows.items)
