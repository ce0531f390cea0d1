use Rattle.std.proofs.Common.{◌≡◌, sym, subst, MatchOption}
use Rattle.lt_definitions.specs.Types.{TypeMap, Matches}
use Rattle.lt_forms.proofs.RelationTypes.{unmatched}
use Rattle.lt_forms.proofs.relation_types.relation_sides.Goals as goal

pub returns : goal.returns
returns c =
    sym (unmatched c.in_ok-relation.relation c.args.ty.now c.in_ok-relation.ensures
    (subst (λ o. MatchOption o ((m : TypeMap) → Matches c.in_ok-relation.relation m c.args.ty.now → ⊥)
    (λ m. Matches c.in_ok-relation.relation m c.args.ty.now)) c.in-None.is c.in_ok-map.ensures))
