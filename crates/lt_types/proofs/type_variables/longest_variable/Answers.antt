use Rattle.lt_types.proofs.VariableLemmas.{longest-first}
use Rattle.lt_types.proofs.type_variables.longest_variable.Goals as goal

pub loop-node-init : goal.loop-node-init
loop-node-init c = longest-first c.args.ty.now c.nodes-node-items.result.now c.nodes-node-items.ensures
