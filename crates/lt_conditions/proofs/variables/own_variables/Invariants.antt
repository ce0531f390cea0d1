use Rattle.std.proofs.Common.{◌≡◌, map}
use Rattle.lt_definitions.specs.Types.{type_variable}
use Rattle.lt_conditions.proofs.variables.own_variables.Given as goal

abbrev pub invariant-loop-name : goal.invariant-loop-name
invariant-loop-name l = l.types ≡ map type_variable (map (λ b. b.now) l.yielded)
