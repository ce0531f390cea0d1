use Rattle.std.proofs.Common.{◌≡◌, ◌∙◌, ap, sym}
use Rattle.std.specs.Bool.{one_answer}
use Rattle.lt_definitions.specs.Types.{same_type}
use Rattle.lt_definitions.proofs.SameNames.{type-true, true-type}
use Rattle.lt_types.specs.Layout.{type_nodes}
use Rattle.lt_types.proofs.LayoutLemmas.{same-nodes}
use Rattle.lt_types.proofs.ty.TyPartialEq.eq.Goals as goal

pub returns : goal.returns
returns c =
    one_answer {P = c.args.self.now ≡ c.args.other.now} c.same_nodes.result (same_type c.args.self.now c.args.other.now)
    (λ e. same-nodes _ _ (sym c.nodes.ensures ∙ c.same_nodes.ensures.0 e ∙ c.nodes-2.ensures), λ e. c.same_nodes.ensures.1 (c.nodes.ensures ∙ ap (type_nodes 0) e ∙ sym c.nodes-2.ensures))
    (type-true _ _, true-type _ _)
