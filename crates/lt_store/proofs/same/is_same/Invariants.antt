use Rattle.lt_store.proofs.Comparisons.{IsCompared, pairs_size}
use Rattle.lt_store.proofs.same.is_same.Given as goal

abbrev pub invariant-loop-x : goal.invariant-loop-x
invariant-loop-x l = IsCompared l.nodes l.a l.b l.seen l.pairs.items

abbrev pub decreases-loop-x : goal.decreases-loop-x
decreases-loop-x l = pairs_size l.nodes l.pairs.items
