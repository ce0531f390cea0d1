use Rattle.std.proofs.Common.{◌∙◌, ap, length}
use Rattle.lt_expressions.proofs.LayoutLemmas.{length-relation_nodes}
use Rattle.lt_expressions.proofs.rel.Rel.len.Goals as goal

pub returns : goal.returns
returns c = ap length c.nodes.ensures ∙ length-relation_nodes 0 c.args.self.now
