use Rattle.std.proofs.Common.{◌≡◌, ◌++◌, drop}
use Rattle.lt_definitions.specs.Types.{type_names}
use Rattle.lt_terms.proofs.NumberedNames.{all_names}
use Rattle.lt_forms.proofs.names.type_names.Given as goal

abbrev pub invariant-loop-node : goal.invariant-loop-node
invariant-loop-node l = l.names.items ++ all_names (drop l.node-index l.node-items) ≡ type_names l.ty
