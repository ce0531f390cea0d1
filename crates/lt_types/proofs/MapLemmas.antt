-- Maps on type variables: looking a name up, setting a pair, one pair for a name; substitution over the types of a list.
use Rattle.std.proofs.Common.{◌≡◌, ◌∙◌, ℕ, zero, suc, ◌+◌, List, [], ◌∷◌, map, take, slice_get, refl, ap, sym, if◌then◌else◌, nat_eq, Bool, true, false, not, ◌||◌, Some, add-one}
use Rattle.std.specs.Cmp.Lexicographic.{pointwise}
use Rattle.std.specs.List.{AllByRecursion, IsDistinct}
use Rattle.std.specs.Map.{lookup}
use Rattle.std.proofs.lemmas.Bool.{and_parts, and_from, or_from, or_right, true≢false}
use Rattle.std.proofs.lemmas.Option.{same_Some, none-some}
use Rattle.std.proofs.lemmas.List.{length-map, take-map, drop-map, map-append}
use Rattle.indexmap.specs.IndexMap.{insert_entry}
use Rattle.lt_types.specs.declared.ty.TyNode.{TyNode}
use Rattle.lt_types.specs.declared.ty.TyNode.TheVariants.{Var, Con}
use Rattle.lt_definitions.specs.Types.{TypeTree, TypeMap, Chars, same_name, has_name, are_distinct, type_and, row, type_instance, types_instance, found}
use Rattle.lt_definitions.proofs.SameNames.{name-true, true-name}
use Rattle.lt_types.specs.Layout.{grow, HasRoom}
use Rattle.lt_types.specs.Maps.{with_pair}

pub looked_up : {A : Type 0} (x : Chars) (es : List (Chars × A)) → lookup (pointwise nat_eq x) es ≡ found x es
looked_up x [] = refl
looked_up x (e ∷ es) = ap (λ later. if same_name x e.0 then Some e.1 else later) (looked_up x es)

pub inserted : (x : Chars) (t : TypeTree) (es : TypeMap) → insert_entry (pointwise nat_eq) es x t ≡ with_pair x t es
inserted x t [] = refl
inserted x t (e ∷ es) = ap (λ later. if same_name x e.0 then (e.0, t) ∷ es else e ∷ later) (inserted x t es)

-- ---- a name has one pair

not-among : (x : Chars) (xs : List Chars) → AllByRecursion (λ y. pointwise nat_eq x y ≡ false) xs → has_name x xs ≡ false
not-among x [] h = refl
not-among x (y ∷ ys) h = or_from (same_name x y) (has_name x ys) h.0 (not-among x ys h.1)

pub distinct-names : (xs : List Chars) → IsDistinct (pointwise nat_eq) xs → are_distinct xs ≡ true
unfolding IsDistinct
distinct-names [] h = refl
distinct-names (x ∷ xs) h = and_from (not (has_name x xs)) (are_distinct xs) (ap not (not-among x xs h.0)) (distinct-names xs h.1)

-- a pair's name is not that of an earlier pair
module _ (p : Chars × TypeTree) (ps : TypeMap) where
  earlier-differs : (x : Chars) (t : TypeTree) (i : ℕ) → are_distinct (map (λ e. e.0) (p ∷ ps)) ≡ true → slice_get ps i ≡ Some (x, t) → same_name x p.0 ≡ false
  earlier-differs x t i h e = by (same_name x p.0) refl
    where
      among : (qs : TypeMap) (j : ℕ) → slice_get qs j ≡ Some (x, t) → same_name p.0 x ≡ true → has_name p.0 (map (λ q. q.0) qs) ≡ true
      among [] j f s = absurd (none-some (x, t) f)
      among (q ∷ qs) zero f s = ap (λ (b : Bool). b || has_name p.0 (map (λ r. r.0) qs)) (ap (λ (r : Chars × TypeTree). same_name p.0 r.0) (same_Some q (x, t) f) ∙ s)
      among (q ∷ qs) (suc j) f s = or_right (same_name p.0 q.0) (has_name p.0 (map (λ r. r.0) qs)) (among qs j f s)

      by : (b : Bool) → same_name x p.0 ≡ b → same_name x p.0 ≡ false
      by false s = s
      by true s =
          let same : same_name p.0 x ≡ true = true-name p.0 x (sym (name-true x p.0 s)) in
          absurd (true≢false (sym (and_parts _ _ h).0 ∙ ap not (among ps i e same)))

pub found-at : (es : TypeMap) (i : ℕ) (x : Chars) (t : TypeTree) → are_distinct (map (λ e. e.0) es) ≡ true → slice_get es i ≡ Some (x, t) → found x es ≡ Some t
found-at [] i x t h e = absurd (none-some (x, t) e)
found-at (p ∷ ps) zero x t h e =
    let at : p ≡ (x, t) = same_Some p (x, t) e in
    ap (λ (q : Chars × TypeTree). found x (q ∷ ps)) at ∙ ap (λ (b : Bool). if b then Some t else found x ps) (true-name x x refl)
found-at (p ∷ ps) (suc i) x t h e =
    ap (λ (b : Bool). if b then Some p.1 else found x ps) (earlier-differs p ps x t i h e) ∙ found-at ps i x t (and_parts _ _ h).1 e

-- pairs that are set one after another
pub copied-next : (es : TypeMap) (i : ℕ) (x : Chars) (t : TypeTree) → are_distinct (map (λ e. e.0) es) ≡ true → slice_get es i ≡ Some (x, t) → with_pair x t (take i es) ≡ take (i + 1) es
copied-next es i x t h e = by es i h e ∙ ap (λ k. take k es) (sym (add-one i))
  where
    by : (es : TypeMap) (i : ℕ) → are_distinct (map (λ e. e.0) es) ≡ true → slice_get es i ≡ Some (x, t) → with_pair x t (take i es) ≡ take (suc i) es
    by [] i h e = absurd (none-some (x, t) e)
    by (p ∷ ps) zero h e = ap (λ (q : Chars × TypeTree). q ∷ []) (sym (same_Some p (x, t) e))
    by (p ∷ ps) (suc i) h e =
        ap (λ (b : Bool). if b then (p.0, t) ∷ take i ps else p ∷ with_pair x t (take i ps)) (earlier-differs p ps x t i h e)
        ∙ ap (λ qs. p ∷ qs) (by ps i (and_parts _ _ h).1 e)

-- ---- substitution over a list

pub row-map : (m : TypeMap) (ts : List TypeTree) → row (map (type_instance m) ts) ≡ types_instance m (row ts)
row-map m [] = refl
row-map m (t ∷ ts) = ap (type_and (type_instance m t)) (row-map m ts)

-- arguments are put together after substitution, or before
pub grow-type_instance : (m : TypeMap) (before : List TypeTree) (c : Chars) (ids : List ℕ)
    → grow (map (type_instance m) before) (Con c ids) ≡ map (type_instance m) (grow before (Con c ids))
grow-type_instance m before c ids = simp (map-append, length-map, take-map, drop-map, row-map) refl

pub room-type_instance : (m : TypeMap) (before : List TypeTree) (n : TyNode) → HasRoom before n → HasRoom (map (type_instance m) before) n
room-type_instance m before (Var x) r = tt
room-type_instance m before (Con c ids) r = simp length-map r
