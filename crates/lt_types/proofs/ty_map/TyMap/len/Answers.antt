use Rattle.std.proofs.Common.{◌∙◌, ap, sym, map}
use Rattle.std.specs.Map.{keys_of}
use Rattle.lt_definitions.specs.Types.{TypeMap, are_distinct}
use Rattle.lt_types.proofs.MapLemmas.{distinct-names}
use Rattle.lt_types.proofs.ty_map.TyMap.len.Goals as goal

pub returns-clause-unique : goal.returns-clause-unique
returns-clause-unique c =
    ap (λ (es : TypeMap). are_distinct (map (λ p. p.0) es)) (sym c.self.view_is) ∙ distinct-names (keys_of c.self.inside.pairs.entries) c.len.ensures.unique
