use Rattle.std.proofs.Common.{◌++◌, []}
use Rattle.lt_definitions.specs.Printing.{printed_term}
use Rattle.lt_terms.specs.Layout.{term_nodes}
use Rattle.lt_syntax.proofs.TermPieces.{IsWriting, weights}
use Rattle.lt_syntax.proofs.terms.write_term.Given as goal

abbrev pub invariant-loop-piece : goal.invariant-loop-piece
invariant-loop-piece l = IsWriting (term_nodes 0 l.term) (l.fn.text ++ printed_term [] l.term) l.text l.binders l.pieces.items

abbrev pub decreases-loop-piece : goal.decreases-loop-piece
decreases-loop-piece l = weights (term_nodes 0 l.term) l.pieces.items
