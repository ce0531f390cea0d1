use Rattle.std.proofs.Common.{◌≡◌, [], take, map}
use Rattle.lt_types.specs.Layout.{forest}
use Rattle.lt_definitions.specs.Types.{type_instance}
use Rattle.lt_types.proofs.substitute.tsub.Given as goal

abbrev pub invariant-loop-node : goal.invariant-loop-node
invariant-loop-node l = l.builder ≡ map (type_instance l.by) (forest [] (take l.node-index l.node-items))
