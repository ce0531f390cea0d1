use Rattle.std.proofs.Common.{◌∙◌, ap, length}
use Rattle.lt_terms.proofs.LayoutLemmas.{length-term_nodes}
use Rattle.lt_terms.proofs.term.Term.len.Goals as goal

pub returns : goal.returns
returns c = ap length c.nodes.ensures ∙ length-term_nodes 0 c.args.self.now
