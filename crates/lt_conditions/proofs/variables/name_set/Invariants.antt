use Rattle.std.proofs.Common.{◌≡◌, [], drop}
use Rattle.lt_definitions.specs.Types.{names_joined}
use Rattle.lt_conditions.proofs.variables.name_set.Given as goal

abbrev pub invariant-loop-name : goal.invariant-loop-name
invariant-loop-name l = names_joined [] l.names ≡ names_joined l.set.keys (drop l.name-index l.names)
