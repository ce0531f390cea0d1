use Rattle.std.proofs.Common.{◌≡◌, ◌++◌, [], take}
use Rattle.lt_expressions.specs.Layout.{relation_nodes, forest}
use Rattle.lt_expressions.proofs.rel.Rel.part.Given as goal

abbrev pub invariant-loop-at : goal.invariant-loop-at
invariant-loop-at l = forest [] (take l.at (relation_nodes 0 l.self)) ≡ forest [] (take l.start (relation_nodes 0 l.self)) ++ l.builder
