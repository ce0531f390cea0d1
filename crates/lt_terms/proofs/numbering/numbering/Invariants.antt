use Rattle.lt_terms.specs.Layout.{term_nodes}
use Rattle.lt_terms.proofs.NumberedNames.{IsWalk, weights}
use Rattle.lt_terms.proofs.numbering.numbering.Given as goal

abbrev pub invariant-loop-at : goal.invariant-loop-at
invariant-loop-at l = IsWalk l.t l.map l.places.items

abbrev pub decreases-loop-at : goal.decreases-loop-at
decreases-loop-at l = weights (term_nodes 0 l.t) l.places.items
