-- What is made of numbers of a table of types.
use Rattle.std.proofs.Common.{◌≡◌, ℕ, ◌-◌, ◌<◌, ◌≤◌, List, [], ◌∷◌, ◌++◌, length, take, drop, slice_get, get_or, Option, Some, None, Bool, true, false, nat_lt, codes, refl, ap, sym, ◌∙◌, subst, arith, length-append, if◌then◌else◌, IfSome}
use Rattle.std.specs.Option.{option_map}
use Rattle.std.proofs.lemmas.Bool.{ltb-true, lt-ltb}
use Rattle.std.proofs.lemmas.List.{length-map, take-map, drop-map, map-append, take-append-drop}
use Rattle.std.proofs.lemmas.List.Folds.{list_all-append}
use Rattle.std.proofs.lemmas.Option.{slice_get_within, get_or_from_slice_get, slice_get-get_or}
use Rattle.lt_types.specs.declared.ty.TyNode.{TyNode}
use Rattle.lt_types.specs.declared.ty.TyNode.TheVariants.{Var, Con}
use Rattle.lt_types.specs.Layout.{grow}
use Rattle.lt_hol.specs.declared.recent_types.RecentType.{RecentType}
use Rattle.lt_definitions.specs.Types.{Chars, same_name, TypeTree, type_variable, type_constructor, row}
use Rattle.lt_definitions.proofs.SameNames.{both-true, true-both}
use Rattle.lt_hol.specs.TypeTables.{type_at, types_at, made_of, all_below, is_below, IsTable, AreRecent, Extends, function_parts, node_parts, both}
use Rattle.lt_hol.proofs.DistinctTypes.{types_at-more, all-more}

pub empty-table : (ns : List TyNode) (name : Chars) (kept : List RecentType) → ns ≡ [] → name ≡ codes "fun" → kept ≡ [] → IsTable ns name kept
empty-table ns name kept e n k =
    subst (λ ms. IsTable ms name kept) (sym e) (record { grounded = tt; apart = λ i j h k. absurd (omega (arith, h)); named = n; recent = subst (AreRecent []) (sym k) tt })

-- ---- the parts of a type of functions

-- the types of a pair of numbers
abbrev pub pair_at : List TypeTree → ℕ × ℕ → TypeTree × TypeTree
pair_at ts p = (type_at ts p.0, type_at ts p.1)

no-parts : (b : Bool) (o : Option (ℕ × ℕ)) → o ≡ None → (if b then o else None) ≡ None
no-parts true o e = e
no-parts false o e = refl

with-parts : (b : Bool) (ts : List TypeTree) (i j : ℕ) → option_map (pair_at ts) (if b then Some (i, j) else None) ≡ (if b then Some (type_at ts i, type_at ts j) else None)
with-parts true ts i j = refl
with-parts false ts i j = refl

pub made-parts : (ts : List TypeTree) (n : TyNode) → option_map (pair_at ts) (node_parts (codes "fun") n) ≡ function_parts (made_of ts n)
made-parts ts (Var x) = refl
made-parts ts (Con c []) = ap (option_map (pair_at ts)) (no-parts (same_name c (codes "fun")) None refl)
made-parts ts (Con c (i ∷ [])) = ap (option_map (pair_at ts)) (no-parts (same_name c (codes "fun")) None refl)
made-parts ts (Con c (i ∷ j ∷ [])) = with-parts (same_name c (codes "fun")) ts i j
made-parts ts (Con c (i ∷ j ∷ k ∷ ids)) = ap (option_map (pair_at ts)) (no-parts (same_name c (codes "fun")) None refl)

-- both numbers of a pair are below a bound
abbrev pub BothBelow : ℕ → Option (ℕ × ℕ) → Type 0
BothBelow n o = IfSome o (λ p. (p.0 < n) × (p.1 < n))

parts-chosen : (b : Bool) (n : ℕ) (ids : List ℕ) → BothBelow n (both ids) → BothBelow n (if b then both ids else None)
parts-chosen true n ids h = h
parts-chosen false n ids h = tt

both-below : (n : ℕ) (ids : List ℕ) → all_below n ids ≡ true → BothBelow n (both ids)
both-below n [] h = tt
both-below n (i ∷ []) h = tt
both-below n (i ∷ j ∷ []) h =
    let first = both-true (nat_lt i n) (all_below n (j ∷ [])) h in
    let second = both-true (nat_lt j n) true first.1 in
    (ltb-true i n first.0, ltb-true j n second.0)
both-below n (i ∷ j ∷ k ∷ ids) h = tt

pub parts-below : (name : Chars) (n : ℕ) (m : TyNode) → is_below n m ≡ true → BothBelow n (node_parts name m)
parts-below name n (Var x) h = tt
parts-below name n (Con c ids) h = parts-chosen (same_name c name) n ids (both-below n ids h)

-- ---- numbers of types, one after another

-- Numbers with their types in a table that has grown.
pub record AreNumbers (table : List TypeTree) (ids : List ℕ) (types : List TypeTree) : Type 0 where
  pub made : types_at table ids ≡ types
  pub below : all_below (length table) ids ≡ true

pub below-append : (n : ℕ) (xs ys : List ℕ) → all_below n xs ≡ true → all_below n ys ≡ true → all_below n (xs ++ ys) ≡ true
below-append n xs ys h k = list_all-append (λ i. nat_lt i n) xs ys ∙ true-both (all_below n xs) (all_below n ys) h k

below-parts : (n k : ℕ) (xs : List ℕ) → all_below n xs ≡ true → (all_below n (take k xs) ≡ true) × (all_below n (drop k xs) ≡ true)
below-parts n k xs h =
    both-true (all_below n (take k xs)) (all_below n (drop k xs))
    (sym (list_all-append (λ i. nat_lt i n) (take k xs) (drop k xs)) ∙ ap (all_below n) (take-append-drop k xs) ∙ h)

pub below-take : (n k : ℕ) (xs : List ℕ) → all_below n xs ≡ true → all_below n (take k xs) ≡ true
below-take n k xs h = (below-parts n k xs h).0

pub below-drop : (n k : ℕ) (xs : List ℕ) → all_below n xs ≡ true → all_below n (drop k xs) ≡ true
below-drop n k xs h = (below-parts n k xs h).1

pub extends-length : (old new : List TypeTree) → Extends old new → length old ≤ length new
extends-length old new e = omega (arith, ap length e.is, length-append old e.more)

pub numbers-later : (old new : List TypeTree) (ids : List ℕ) (types : List TypeTree) → Extends old new → AreNumbers old ids types → AreNumbers new ids types
numbers-later old new ids types e h = record {
  made = ap (λ ts. types_at ts ids) e.is ∙ types_at-more old e.more ids h.below ∙ h.made;
  below = all-more (length old) (length new) ids (extends-length old new e) h.below;
}

-- one more number
pub numbers-more : (old new : List TypeTree) (ids more : List ℕ) (types : List TypeTree) (id : ℕ) (t : TypeTree) → Extends old new → AreNumbers old ids types → slice_get new id ≡ Some t → more ≡ ids ++ id ∷ []
    → AreNumbers new more (types ++ t ∷ [])
numbers-more old new ids more types id t e h at is =
    let later : AreNumbers new ids types = numbers-later old new ids types e h in
    let within : id < length new = slice_get_within new id t at in
    subst (λ js. AreNumbers new js (types ++ t ∷ [])) (sym is) (record {
      made = map-append (type_at new) ids (id ∷ []) ∙ (λ i. later.made i ++ get_or_from_slice_get new id t (type_variable []) at i ∷ []);
      below = below-append (length new) ids (id ∷ []) later.below (true-both (nat_lt id (length new)) true (lt-ltb id (length new) within) refl);
    })

pub numbers-of : (table : List TypeTree) (ids : List ℕ) → all_below (length table) ids ≡ true → AreNumbers table ids (types_at table ids)
numbers-of table ids h = record { made = refl; below = h }

-- a variable, and a constructor with its arguments
pub put-variable : (old new : List TypeTree) (ids more : List ℕ) (id : ℕ) (x y : Chars) → all_below (length old) ids ≡ true → Extends old new → slice_get new id ≡ Some (type_variable y) → y ≡ x → more ≡ ids ++ id ∷ []
    → AreNumbers new more (grow (types_at old ids) (Var x))
put-variable old new ids more id x y b e at same is =
    numbers-more old new ids more (types_at old ids) id (type_variable x) e (numbers-of old ids b) (at ∙ ap (λ z. Some (type_variable z)) same) is

pub put-constructor : (old new : List TypeTree) (ids kept args more : List ℕ) (id k : ℕ) (c d : Chars) (places : List ℕ) → all_below (length old) ids ≡ true → Extends old new
    → k ≡ length ids - length places → kept ≡ take k ids → args ≡ drop k ids → slice_get new id ≡ Some (type_constructor d (row (types_at old args))) → d ≡ c → more ≡ kept ++ id ∷ []
    → AreNumbers new more (grow (types_at old ids) (Con c places))
put-constructor old new ids kept args more id k c d places b e n front back at same is =
    let cut : length (types_at old ids) - length places ≡ k = omega (arith, n, length-map ids (type_at old)) in
    let left : types_at old kept ≡ take (length (types_at old ids) - length places) (types_at old ids) =
    ap (types_at old) front ∙ sym (take-map (type_at old) k ids) ∙ ap (λ j. take j (types_at old ids)) (sym cut) in
    let right : types_at old args ≡ drop (length (types_at old ids) - length places) (types_at old ids) =
    ap (types_at old) back ∙ sym (drop-map (type_at old) k ids) ∙ ap (λ j. drop j (types_at old ids)) (sym cut) in
    numbers-more old new kept more (take (length (types_at old ids) - length places) (types_at old ids)) id
    (type_constructor c (row (drop (length (types_at old ids) - length places) (types_at old ids)))) e
    (record { made = left; below = subst (λ js. all_below (length old) js ≡ true) (sym front) (below-take (length old) k ids b) })
    (at ∙ (λ i. Some (type_constructor (same i) (row (right i))))) is

-- the one number of a type
pub one-number : (table : List TypeTree) (ids : List ℕ) (t : TypeTree) (id : ℕ) → AreNumbers table ids (t ∷ []) → id ≡ get_or ids 0 id → slice_get table id ≡ Some t
one-number table [] t id h e = absurd (cc (h.made))
one-number table (i ∷ []) t id h e =
    let within : i < length table = ltb-true i (length table) (both-true (nat_lt i (length table)) true h.below).0 in
    let made : type_at table i ≡ t = cc (h.made) in
    ap (slice_get table) e ∙ slice_get-get_or table i (type_variable []) within ∙ ap Some made
one-number table (i ∷ j ∷ ids) t id h e = absurd (cc (h.made))

pub some-number : (table : List TypeTree) (ids : List ℕ) (t : TypeTree) → AreNumbers table ids (t ∷ []) → 0 < length ids
some-number table ids t h = omega (arith, ap length h.made, length-map ids (type_at table))
