use Rattle.std.proofs.Common.{◌∙◌, ◌++◌, ◌∷◌, [], ap, refl}
use Rattle.lt_transport_definitions.specs.Relations.{relation_variable}
use Rattle.lt_expressions.specs.Layout.{forest, IsRow}
use Rattle.lt_expressions.proofs.Rows.{row-leaf, row-reads, row-again}
use Rattle.lt_expressions.proofs.rel_builder.RelBuilder.var.Goals as goal

grown : (c : goal.In_ok-push-2) → IsRow c.push-2.new.self.items c.push.new.self.items (forest [] c.self.inside.nodes.items ++ relation_variable c.args.number c.args.ty ∷ [])
grown c =
    row-leaf _ _ _ _ _ _ (relation_variable c.args.number c.args.ty) _ c.self.invariant (c.len.ensures ∙ c.self.inside.nodes.ok.0) (λ from. refl) refl c.in_ok-push.ensures.items c.in_ok-push-2.ensures.items

pub invariant_of-result : goal.invariant_of-result
invariant_of-result c = row-again _ _ _ (grown c)

pub returns : goal.returns
returns c = row-reads _ _ _ (grown c) ∙ ap (λ made. made ++ relation_variable c.args.number c.args.ty ∷ []) c.self.view_is
