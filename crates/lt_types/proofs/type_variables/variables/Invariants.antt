use Rattle.std.proofs.Common.{◌≡◌, map, take}
use Rattle.lt_definitions.specs.Types.{type_variable}
use Rattle.lt_types.proofs.type_variables.variables.Given as goal

abbrev pub invariant-loop-name : goal.invariant-loop-name
invariant-loop-name l = l.types.items ≡ map type_variable (take l.name-index l.names)
