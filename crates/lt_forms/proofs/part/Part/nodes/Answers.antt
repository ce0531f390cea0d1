use Rattle.std.proofs.Common.{◌∙◌, ap}
use Rattle.lt_terms.specs.Layout.{term_nodes}
use Rattle.lt_forms.proofs.part.Part.nodes.Goals as goal

pub returns : goal.returns
returns c = (c.self.inside.from, c.self.invariant.laid ∙ ap (term_nodes c.self.inside.from) c.self.view_is)
