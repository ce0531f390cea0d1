-- What is new in a table of types are parts of given types.
use Rattle.std.proofs.Common.{◌≡◌, ℕ, ◌-◌, ◌⊎◌, inl, inr, List, [], ◌∷◌, ◌++◌, length, map, take, drop, slice_get, Some, Bool, true, false, ◌||◌, refl, ap, sym, ◌∙◌, subst, append_assoc, append-nil}
use Rattle.std.specs.List.{list_all}
use Rattle.std.proofs.lemmas.Bool.{and_parts, and_from, or_cases, or_left, or_right}
use Rattle.std.proofs.lemmas.List.{map-append, take-append-drop}
use Rattle.std.proofs.lemmas.List.Folds.{list_all-append}
use Rattle.std.proofs.lemmas.Option.{get_or_from_slice_get}
use Rattle.lt_types.specs.declared.ty.TyNode.{TyNode}
use Rattle.lt_types.specs.declared.ty.TyNode.TheVariants.{Var, Con}
use Rattle.lt_types.specs.Layout.{grow}
use Rattle.lt_types.proofs.MapLemmas.{grow-type_instance}
use Rattle.lt_definitions.specs.Types.{TypeTree, TypeMap, type_variable, type_constructor, row, same_type, type_instance}
use Rattle.lt_definitions.proofs.SameNames.{true-type}
use Rattle.lt_hol.specs.TypeTables.{is_part, is_part_of_some, ExtendsBy, type_at, types_at}

or-assoc : (a b c : Bool) → (a || (b || c)) ≡ ((a || b) || c)
or-assoc true b c = refl
or-assoc false b c = refl

part-self : (t : TypeTree) → is_part t t ≡ true
part-self (type_variable x) = true-type (type_variable x) (type_variable x) refl
part-self (type_constructor c us) =
    or_left (same_type (type_constructor c us) (type_constructor c us)) (is_part_of_some (type_constructor c us) us) (true-type (type_constructor c us) (type_constructor c us) refl)

pub one-part : (t : TypeTree) → list_all (λ u. is_part_of_some u (row (t ∷ []))) (t ∷ []) ≡ true
one-part t = and_from _ _ (or_left (is_part t t) false (part-self t)) refl

-- ---- parts of lists of types

some-append : (t : TypeTree) (xs ys : List TypeTree) → is_part_of_some t (row (xs ++ ys)) ≡ (is_part_of_some t (row xs) || is_part_of_some t (row ys))
some-append t [] ys = refl
some-append t (x ∷ xs) ys = ap (λ (b : Bool). is_part t x || b) (some-append t xs ys) ∙ or-assoc (is_part t x) (is_part_of_some t (row xs)) (is_part_of_some t (row ys))

some-left : (t : TypeTree) (xs ys : List TypeTree) → is_part_of_some t (row xs) ≡ true → is_part_of_some t (row (xs ++ ys)) ≡ true
some-left t xs ys h = some-append t xs ys ∙ or_left (is_part_of_some t (row xs)) (is_part_of_some t (row ys)) h

some-right : (t : TypeTree) (xs ys : List TypeTree) → is_part_of_some t (row ys) ≡ true → is_part_of_some t (row (xs ++ ys)) ≡ true
some-right t xs ys h = some-append t xs ys ∙ or_right (is_part_of_some t (row xs)) (is_part_of_some t (row ys)) h

-- what is a part of some types is one of those that a node makes of them
pub part-grow : (t : TypeTree) (before : List TypeTree) (n : TyNode) → is_part_of_some t (row before) ≡ true → is_part_of_some t (row (grow before n)) ≡ true
part-grow t before (Var x) h = some-left t before (type_variable x ∷ []) h
part-grow t before (Con c ids) h =
    by (or_cases (is_part_of_some t (row kept)) (is_part_of_some t (row args))
    (sym (some-append t kept args) ∙ ap (λ ts. is_part_of_some t (row ts)) (take-append-drop (length before - length ids) before) ∙ h))
  where
    kept : List TypeTree
    kept = take (length before - length ids) before

    args : List TypeTree
    args = drop (length before - length ids) before

    by : (is_part_of_some t (row kept) ≡ true) ⊎ (is_part_of_some t (row args) ≡ true) → is_part_of_some t (row (kept ++ type_constructor c (row args) ∷ [])) ≡ true
    by (inl l) = some-left t kept (type_constructor c (row args) ∷ []) l
    by (inr r) = some-right t kept (type_constructor c (row args) ∷ [])
        (or_left (is_part t (type_constructor c (row args))) false (or_right (same_type t (type_constructor c (row args))) (is_part_of_some t (row args)) r))

-- the same where types were put for variables
pub part-grow-instance : (m : TypeMap) (t : TypeTree) (before : List TypeTree) (n : TyNode) → is_part_of_some t (row (map (type_instance m) before)) ≡ true
    → is_part_of_some t (row (map (type_instance m) (grow before n))) ≡ true
part-grow-instance m t before (Var x) h =
    ap (λ ts. is_part_of_some t (row ts)) (map-append (type_instance m) before (type_variable x ∷ []))
    ∙ some-left t (map (type_instance m) before) (type_instance m (type_variable x) ∷ []) h
part-grow-instance m t before (Con c ids) h =
    ap (λ ts. is_part_of_some t (row ts)) (sym (grow-type_instance m before c ids)) ∙ part-grow t (map (type_instance m) before) (Con c ids) h

-- ---- tables that grow

weaker : (f g : TypeTree → Bool) → ((t : TypeTree) → f t ≡ true → g t ≡ true) → (ts : List TypeTree) → list_all f ts ≡ true → list_all g ts ≡ true
weaker f g s [] h = refl
weaker f g s (t ∷ ts) h = let k = and_parts _ _ h in and_from _ _ (s t k.0) (weaker f g s ts k.1)

pub by-none : (types old : List TypeTree) → ExtendsBy types old old
by-none types old = record { more = []; is = sym (append-nil old); parts = refl }

pub by-weaken : (ts us old new : List TypeTree) → ((t : TypeTree) → is_part_of_some t (row ts) ≡ true → is_part_of_some t (row us) ≡ true) → ExtendsBy ts old new → ExtendsBy us old new
by-weaken ts us old new s e = record {
  more = e.more;
  is = e.is;
  parts = weaker (λ t. is_part_of_some t (row ts)) (λ t. is_part_of_some t (row us)) s e.more e.parts;
}

pub by-then : (ts old now new : List TypeTree) → ExtendsBy ts old now → ExtendsBy ts now new → ExtendsBy ts old new
by-then ts old now new e f = record {
  more = e.more ++ f.more;
  is = f.is ∙ ap (λ l. l ++ f.more) e.is ∙ append_assoc old e.more f.more;
  parts = list_all-append (λ t. is_part_of_some t (row ts)) e.more f.more ∙ and_from _ _ e.parts f.parts;
}

-- what was made for the last of some numbers
pub by-last : (old new : List TypeTree) (kept more : List ℕ) (id : ℕ) (made : TypeTree) → ExtendsBy (made ∷ []) old new → slice_get new id ≡ Some made → more ≡ kept ++ id ∷ []
    → ExtendsBy (types_at new more) old new
by-last old new kept more id made e at is =
    subst (λ ts. ExtendsBy ts old new) (sym (ap (types_at new) is ∙ map-append (type_at new) kept (id ∷ [])))
    (by-weaken (type_at new id ∷ []) (types_at new kept ++ type_at new id ∷ []) old new (λ t h. some-right t (types_at new kept) (type_at new id ∷ []) h)
    (subst (λ t. ExtendsBy (t ∷ []) old new) (sym (get_or_from_slice_get new id made (type_variable []) at)) e))

-- one more node, in a table that has grown
pub by-node : (first old new now later made : List TypeTree) → ((t : TypeTree) → is_part_of_some t (row now) ≡ true → is_part_of_some t (row later) ≡ true)
    → ExtendsBy now first old → ExtendsBy made old new → made ≡ later → ExtendsBy later first new
by-node first old new now later made s e f is = by-then later first old new (by-weaken now later first old s e) (subst (λ ts. ExtendsBy ts old new) is f)
