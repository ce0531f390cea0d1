use Rattle.std.proofs.Common.{◌≤◌, [], take, length, reverse}
use Rattle.lt_types.specs.Layout.{type_nodes, forest}
use Rattle.lt_types.proofs.MatchingLemmas.{IsLeft}
use Rattle.lt_types.proofs.matching.occurrences.Given as goal

abbrev pub invariant-loop-at : goal.invariant-loop-at
invariant-loop-at l =
    IsLeft l.pattern l.ty (forest [] (take l.at (type_nodes 0 l.pattern))) (forest [] (take l.end (type_nodes 0 l.ty))) (reverse l.pairs.items) × (l.end ≤ length (type_nodes 0 l.ty))
