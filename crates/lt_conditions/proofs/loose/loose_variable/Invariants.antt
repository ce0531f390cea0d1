use Rattle.std.proofs.Common.{◌≡◌, [], take, map, reverse}
use Rattle.lt_terms.specs.Layout.{forest}
use Rattle.lt_conditions.proofs.LooseTerms.{loose_of}
use Rattle.lt_conditions.proofs.loose.loose_variable.Given as goal

abbrev pub invariant-loop-node : goal.invariant-loop-node
invariant-loop-node l = reverse l.firsts.items ≡ map (loose_of l.allowed.keys) (forest [] (take l.node-index l.node-items))
