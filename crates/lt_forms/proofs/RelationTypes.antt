-- The types of relations are those that match one pattern.
use Rattle.std.proofs.Common.{◌≡◌, [], ◌∷◌, Bool, true, false, ◌&&◌, if◌then◌else◌, Option, Some, None, codes, refl, sym, ◌∙◌, ap}
use Rattle.std.proofs.lemmas.Option.{same_Some, none-some}
use Rattle.lt_definitions.specs.Types.{TypeTree, TypeTrees, type_variable, type_constructor, no_types, type_and, bool, same_name, same_type, TypeMap, type_instance, type_variables, Matches}
use Rattle.lt_definitions.proofs.SameNames.{both-true, name-true, type-true}
use Rattle.lt_transport_definitions.specs.Notation.{◌~◌}
use Rattle.lt_transport_definitions.specs.Letters.{a, b}
use Rattle.lt_transport_definitions.specs.Patterns.{relation_sides}

taken : {A : Type 0} (holds : Bool) (x y : A) → (if holds then Some x else None) ≡ Some y → (holds ≡ true) × (x ≡ y)
taken true x y h = (refl, same_Some x y h)
taken false x y h = absurd (none-some y h)

abbrev sided : TypeTree × TypeTree → TypeTree
sided s = s.0 ~ s.1

-- a type that has sides is that of the relations between them
pub from-sides : (ty : TypeTree) (s : TypeTree × TypeTree) → relation_sides ty ≡ Some s → ty ≡ s.0 ~ s.1
from-sides (type_constructor c (type_and from (type_and (type_constructor d (type_and to (type_and truth no_types))) no_types))) s h =
    let k = taken (same_name c (codes "fun") && same_name d (codes "fun") && same_type truth bool) (from, to) s h in
    let abc = both-true (same_name c (codes "fun") && same_name d (codes "fun")) (same_type truth bool) k.0 in
    let ab = both-true (same_name c (codes "fun")) (same_name d (codes "fun")) abc.0 in
    let c_is : c ≡ codes "fun" = name-true c (codes "fun") ab.0 in
    let d_is : d ≡ codes "fun" = name-true d (codes "fun") ab.1 in
    let t_is : truth ≡ bool = type-true truth bool abc.1 in
    (λ i. type_constructor (c_is i) (type_and from (type_and (type_constructor (d_is i) (type_and to (type_and (t_is i) no_types))) no_types)))
    ∙ ap sided k.1
from-sides ty s h = absurd (none-some s h)

-- by a map that matches
pub matched : (pattern ty : TypeTree) (m : TypeMap) → pattern ≡ a ~ b → Matches pattern m ty → relation_sides ty ≡ Some (type_instance m a, type_instance m b)
matched pattern ty m e h = ap relation_sides (sym h.instance ∙ ap (type_instance m) e)

-- where no map matches
pub unmatched : (pattern ty : TypeTree) → pattern ≡ a ~ b → ((m : TypeMap) → Matches pattern m ty → ⊥) → relation_sides ty ≡ None
unmatched pattern ty e h = by (relation_sides ty) refl
  where
    by : (o : Option (TypeTree × TypeTree)) → relation_sides ty ≡ o → relation_sides ty ≡ None
    by None q = q
    by (Some s) q =
        let m : TypeMap = (codes "a", s.0) ∷ (codes "b", s.1) ∷ [] in
        absurd (h m (record { instance = ap (type_instance m) e ∙ sym (from-sides ty s q); domain = sym (ap type_variables e) }))
