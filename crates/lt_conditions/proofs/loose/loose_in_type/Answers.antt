use Rattle.std.proofs.Common.{◌∙◌, [], ap, sym, drop, append-nil}
use Rattle.lt_definitions.specs.Types.{type_names}
use Rattle.lt_terms.proofs.NumberedNames.{all_names, type-first}
use Rattle.lt_conditions.specs.LooseNames.{first_loose}
use Rattle.lt_conditions.proofs.loose.loose_in_type.Goals as goal

pub loop-node-init : goal.loop-node-init
loop-node-init c =
    ap (first_loose c.args.allowed.now.keys)
    (sym (append-nil (type_names c.args.ty.now)) ∙ type-first c.nodes-node-items.result.now c.args.ty.now [] c.nodes-node-items.ensures ∙ append-nil (all_names (drop 0 c.nodes-node-items.result.now)))
