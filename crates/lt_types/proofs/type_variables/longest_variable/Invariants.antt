use Rattle.std.proofs.Common.{◌≡◌, max, drop}
use Rattle.lt_types.specs.TypeVariables.{longest_variable}
use Rattle.lt_types.proofs.VariableLemmas.{greatest}
use Rattle.lt_types.proofs.type_variables.longest_variable.Given as goal

abbrev pub invariant-loop-node : goal.invariant-loop-node
invariant-loop-node l = longest_variable l.ty ≡ max l.longest (greatest (drop l.node-index l.node-items))
