use Rattle.std.proofs.Common.{◌∙◌, ◌++◌, ◌∷◌, [], ap, length}
use Rattle.lt_definitions.specs.Types.{type_variable}
use Rattle.lt_types.specs.Layout.{forest, all_roots, IsRow}
use Rattle.lt_types.proofs.Rows.{built-var, row-reads, row-again}
use Rattle.lt_types.proofs.ty_builder.TyBuilder.var.Goals as goal

grown : (c : goal.In_ok-push) → IsRow c.push.new.self.items (all_roots (length c.push.new.self.items) c.in_ok-all.all.items) (forest [] c.self.inside.nodes.items ++ type_variable c.args.name ∷ [])
grown c =
    built-var c.self.inside.nodes.items c.push.new.self.items c.self.inside.roots.items c.in_ok-all.all.items _ c.args.name c.self.invariant
    (c.in_ok-all.ensures ∙ ap (λ n. all_roots n c.self.inside.roots.items) (c.len.ensures ∙ c.self.inside.nodes.ok.0)) c.in_ok-push.ensures.items

pub invariant_of-result : goal.invariant_of-result
invariant_of-result c = row-again _ _ _ (grown c)

pub returns : goal.returns
returns c = row-reads _ _ _ (grown c) ∙ ap (λ made. made ++ type_variable c.args.name ∷ []) c.self.view_is
