use Rattle.std.proofs.Common.{◌∙◌, ap, length}
use Rattle.lt_terms.specs.Layout.{term_size}
use Rattle.lt_terms.proofs.LayoutLemmas.{length-term_nodes}
use Rattle.lt_forms.proofs.part.Part.len.Goals as goal

pub returns : goal.returns
returns c = ap length c.self.invariant.laid ∙ length-term_nodes _ _ ∙ ap term_size c.self.view_is
