use Rattle.std.proofs.Common.{◌≡◌, [], drop}
use Rattle.lt_types.specs.Matching.{firsts_behind}
use Rattle.lt_types.proofs.matching.firsts.Given as goal

abbrev pub invariant-loop-pair : goal.invariant-loop-pair
invariant-loop-pair l = firsts_behind [] l.pairs ≡ firsts_behind l.map (drop l.pair-index l.pairs)
