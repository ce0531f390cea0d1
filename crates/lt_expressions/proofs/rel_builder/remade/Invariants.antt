use Rattle.std.proofs.Common.{◌≡◌, [], take}
use Rattle.lt_expressions.specs.Layout.{forest}
use Rattle.lt_expressions.proofs.rel_builder.remade.Given as goal

abbrev pub invariant-loop-node : goal.invariant-loop-node
invariant-loop-node l = l.builder ≡ forest [] (take l.node-index l.nodes)
