use Rattle.std.proofs.Common.{◌≡◌}
use Rattle.lt_types.specs.TypeVariables.{long_names}
use Rattle.lt_types.proofs.type_variables.long_names.Given as goal

abbrev pub invariant-loop-k : goal.invariant-loop-k
invariant-loop-k l = l.names.items ≡ long_names l.length l.k
