use Rattle.std.proofs.Common.{◌≡◌, max, drop}
use Rattle.lt_definitions.specs.Types.{row}
use Rattle.lt_types.specs.TypeVariables.{longest_name, longest_in}
use Rattle.lt_types.proofs.type_variables.longest.Given as goal

abbrev pub invariant-loop-name : goal.invariant-loop-name
invariant-loop-name l = longest_name l.names ≡ max l.longest (longest_name (drop l.name-index l.names))

abbrev pub invariant-loop-ty : goal.invariant-loop-ty
invariant-loop-ty l = max (longest_name l.names) (longest_in (row l.types)) ≡ max l.longest (longest_in (row (drop l.ty-index l.types)))
