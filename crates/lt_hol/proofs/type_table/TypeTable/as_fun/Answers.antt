use Rattle.std.proofs.Common.{◌≡◌, ◌∙◌, [], List, true, arith, length, sym, ap, subst}
use Rattle.std.specs.Option.{option_map}
use Rattle.lt_definitions.specs.Types.{Chars, TypeTree}
use Rattle.lt_hol.specs.TypeTables.{type_at, made_of, node_parts, is_below, function_parts}
use Rattle.lt_hol.proofs.DistinctTypes.{length-types_after, type_at-node, below-whole}
use Rattle.lt_hol.proofs.TypeNumbers.{pair_at, made-parts, BothBelow, parts-below}
use Rattle.lt_hol.proofs.type_table.TypeTable.as_fun.Goals as goal

pub index-requires : goal.index-requires
index-requires c = omega (arith, c.requires, length-types_after [] c.self.inside.nodes.keys, ap length c.self.view_is)

pub returns-clause-parts : goal.returns-clause-parts
returns-clause-parts c =
    ap (option_map (pair_at c.args.self.now)) (c.node_parts.ensures ∙ ap (λ (f : Chars). node_parts f c.index.result.now) c.self.invariant.named)
    ∙ made-parts c.args.self.now c.index.result.now
    ∙ sym (ap function_parts (subst (λ (ts : List TypeTree). type_at ts c.args.id ≡ made_of ts c.index.result.now) c.self.view_is (type_at-node c.self.inside.nodes.keys c.args.id c.index.result.now c.self.invariant.grounded c.index.ensures)))

pub returns-clause-within : goal.returns-clause-within
returns-clause-within c =
    subst (BothBelow (length c.args.self.now)) (sym c.node_parts.ensures)
    (parts-below _ (length c.args.self.now) c.index.result.now
    (subst (λ (ts : List TypeTree). is_below (length ts) c.index.result.now ≡ true) c.self.view_is (below-whole c.self.inside.nodes.keys c.args.id c.index.result.now c.self.invariant.grounded c.index.ensures)))
