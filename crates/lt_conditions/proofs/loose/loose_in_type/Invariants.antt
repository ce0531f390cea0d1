use Rattle.std.proofs.Common.{◌≡◌, drop}
use Rattle.lt_definitions.specs.Types.{type_names}
use Rattle.lt_terms.proofs.NumberedNames.{all_names}
use Rattle.lt_conditions.specs.LooseNames.{first_loose}
use Rattle.lt_conditions.proofs.loose.loose_in_type.Given as goal

abbrev pub invariant-loop-node : goal.invariant-loop-node
invariant-loop-node l = first_loose l.allowed.keys (type_names l.ty) ≡ first_loose l.allowed.keys (all_names (drop l.node-index l.node-items))
