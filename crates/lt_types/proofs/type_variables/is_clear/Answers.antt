use Rattle.std.proofs.Common.{◌∙◌, ap}
use Rattle.std.specs.List.{list_all}
use Rattle.lt_types.specs.TypeVariables.{is_node_clear}
use Rattle.lt_types.proofs.VariableLemmas.{clear-nodes}
use Rattle.lt_types.proofs.type_variables.is_clear.Goals as goal

pub returns : goal.returns
returns c = c.are_nodes_clear.ensures ∙ ap (list_all (is_node_clear c.args.names.now)) c.nodes.ensures ∙ clear-nodes c.args.names.now 0 c.args.ty.now
