use Rattle.std.proofs.Common.{◌≡◌, ◌∙◌, ap, sym, map, slice_get, Some}
use Rattle.std.specs.Map.{keys_of}
use Rattle.lt_definitions.specs.Types.{TypeMap, are_distinct}
use Rattle.lt_types.proofs.MapLemmas.{distinct-names, found-at}
use Rattle.lt_types.proofs.ty_map.TyMap.at.Goals as goal

pub returns-clause-unique : goal.returns-clause-unique
returns-clause-unique c =
    ap (λ (es : TypeMap). are_distinct (map (λ p. p.0) es)) (sym c.self.view_is) ∙ distinct-names (keys_of c.self.inside.pairs.entries) c.as_slice.ensures.unique

pub returns-clause-of_name : goal.returns-clause-of_name
returns-clause-of_name c =
    let at : slice_get c.args.self.now c.args.i ≡ Some (c.in-Some.pair.0.now, c.in-Some.pair.1.now) =
    ap (λ (es : TypeMap). slice_get es c.args.i) (sym (c.as_slice.ensures.entries ∙ c.self.view_is)) ∙ sym c.in-Some.ensures.entry in
    found-at c.args.self.now c.args.i c.in-Some.pair.0.now c.in-Some.pair.1.now
    (ap (λ (es : TypeMap). are_distinct (map (λ p. p.0) es)) (sym c.self.view_is) ∙ distinct-names (keys_of c.self.inside.pairs.entries) c.as_slice.ensures.unique) at
