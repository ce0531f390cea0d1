use Rattle.std.proofs.Common.{◌≡◌, ◌≤◌, ◌-◌, ◌∙◌, ◌++◌, ◌∷◌, [], ap, length, take, drop, arith, List}
use Rattle.lt_definitions.specs.Types.{TypeTree, type_constructor, row}
use Rattle.lt_types.specs.Layout.{IsRow, forest, all_roots}
use Rattle.lt_types.proofs.Rows.{built-con, row-reads, row-again, length-row}
use Rattle.lt_types.proofs.ty_builder.TyBuilder.con.Goals as goal

pub overflow_sub-len : goal.overflow_sub-len
overflow_sub-len c =
    omega (
      arith,
      c.len-2.ensures,
      c.in_ok-all.all.ok.0,
      ap length (c.in_ok-all.ensures ∙ ap (λ n. all_roots n c.self.inside.roots.items) (c.len.ensures ∙ c.self.inside.nodes.ok.0)),
      length-row _ _ _ c.self.invariant,
      ap length c.self.view_is,
      c.requires,
    )

abbrev made : goal.In_ok-push → List TypeTree
made c = forest [] c.self.inside.nodes.items

grown : (c : goal.In_ok-push) → IsRow c.push.new.self.items (all_roots (length c.push.new.self.items) c.split_off.new.self.items) (take (length (made c) - c.args.count) (made c) ++ type_constructor c.args.name (row (drop (length (made c) - c.args.count) (made c))) ∷ [])
grown c =
    let fits : c.args.count ≤ length (made c) = omega (arith, ap length c.self.view_is, c.requires) in
    let at : c.len-2.result - c.args.count ≡ length c.in_ok-all.all.items - c.args.count = ap (λ n. n - c.args.count) (c.len-2.ensures ∙ c.in_ok-all.all.ok.0) in
    built-con c.self.inside.nodes.items c.push.new.self.items c.self.inside.roots.items c.in_ok-all.all.items c.split_off.new.self.items c.from_vec.result (made c) c.args.name c.args.count c.self.invariant fits
    (c.in_ok-all.ensures ∙ ap (λ n. all_roots n c.self.inside.roots.items) (c.len.ensures ∙ c.self.inside.nodes.ok.0))
    (c.in_ok-places.ensures.items ∙ ap (λ n. take n c.in_ok-all.all.items) at)
    (c.from_vec.ensures ∙ c.in_ok-places.ensures.tail ∙ ap (λ n. drop n c.in_ok-all.all.items) at)
    c.in_ok-push.ensures.items

pub invariant_of-result : goal.invariant_of-result
invariant_of-result c = row-again _ _ _ (grown c)

pub returns : goal.returns
returns c =
    row-reads _ _ _ (grown c) ∙ ap (λ (r : List TypeTree). take (length r - c.args.count) r ++ type_constructor c.args.name (row (drop (length r - c.args.count) r)) ∷ []) c.self.view_is
