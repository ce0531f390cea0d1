use Rattle.std.proofs.Common.{◌≡◌, ◌∙◌, ap, sym}
use Rattle.lt_expressions.specs.Layout.{relation_nodes}
use Rattle.lt_expressions.proofs.LayoutLemmas.{same-nodes}
use Rattle.lt_expressions.proofs.rel.Rel.same.Goals as goal

pub returns : goal.returns
returns c = (
  λ e. same-nodes _ _ (sym c.nodes.ensures ∙ c.same_nodes.ensures.0 e ∙ c.nodes-2.ensures),
  λ e. c.same_nodes.ensures.1 (c.nodes.ensures ∙ ap (relation_nodes 0) e ∙ sym c.nodes-2.ensures),
)
