use Rattle.std.proofs.Common.{◌≡◌, ◌≤◌, ◌-◌, ◌∙◌, ◌++◌, ◌∷◌, [], ap, length, take, drop, arith, List}
use Rattle.lt_transport_definitions.specs.Relations.{Relation, constructed, relation_row}
use Rattle.lt_expressions.specs.Layout.{IsRow, forest}
use Rattle.lt_expressions.proofs.Rows.{row-con, row-reads, row-again, length-row}
use Rattle.lt_expressions.proofs.rel_builder.RelBuilder.con.Goals as goal

pub overflow_sub-len : goal.overflow_sub-len
overflow_sub-len c =
    omega (arith, c.len.ensures, c.self.inside.roots.ok.0, length-row _ _ _ c.self.invariant, ap length c.self.view_is, c.requires)

abbrev made : goal.In_ok-push-2 → List Relation
made c = forest [] c.self.inside.nodes.items

grown : (c : goal.In_ok-push-2) → IsRow c.push-2.new.self.items c.push.new.self.items (take (length (made c) - c.args.count) (made c) ++ constructed c.args.name c.args.types (relation_row (drop (length (made c) - c.args.count) (made c))) ∷ [])
grown c =
    let fits : c.args.count ≤ length (made c) = omega (arith, ap length c.self.view_is, c.requires) in
    let at : c.len.result - c.args.count ≡ length c.self.inside.roots.items - c.args.count = ap (λ n. n - c.args.count) (c.len.ensures ∙ c.self.inside.roots.ok.0) in
    row-con _ _ _ _ _ _ _ _ _ _ _ c.self.invariant fits (c.len-2.ensures ∙ c.self.inside.nodes.ok.0)
    (c.in_ok-places.ensures.items ∙ ap (λ n. take n c.self.inside.roots.items) at)
    (c.from_vec.ensures ∙ c.in_ok-places.ensures.tail ∙ ap (λ n. drop n c.self.inside.roots.items) at)
    c.in_ok-push.ensures.items c.in_ok-push-2.ensures.items

pub invariant_of-result : goal.invariant_of-result
invariant_of-result c = row-again _ _ _ (grown c)

pub returns : goal.returns
returns c =
    row-reads _ _ _ (grown c) ∙ ap (λ (r : List Relation). take (length r - c.args.count) r ++ constructed c.args.name c.args.types (relation_row (drop (length r - c.args.count) r)) ∷ []) c.self.view_is
