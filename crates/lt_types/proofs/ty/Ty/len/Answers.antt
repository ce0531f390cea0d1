use Rattle.std.proofs.Common.{◌∙◌, ap, length}
use Rattle.lt_types.proofs.LayoutLemmas.{length-type_nodes}
use Rattle.lt_types.proofs.ty.Ty.len.Goals as goal

pub returns : goal.returns
returns c = ap length c.nodes.ensures ∙ length-type_nodes 0 c.args.self.now
