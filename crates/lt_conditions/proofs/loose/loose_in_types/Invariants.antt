use Rattle.std.proofs.Common.{◌≡◌, drop}
use Rattle.lt_definitions.specs.Types.{types_names, row}
use Rattle.lt_conditions.specs.LooseNames.{first_loose}
use Rattle.lt_conditions.proofs.loose.loose_in_types.Given as goal

abbrev pub invariant-loop-ty : goal.invariant-loop-ty
invariant-loop-ty l = first_loose l.allowed.keys (types_names (row l.types)) ≡ first_loose l.allowed.keys (types_names (row (drop l.ty-index l.types)))
