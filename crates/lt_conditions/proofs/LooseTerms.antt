-- The first loose type variable of a term, over its nodes.
use Rattle.std.proofs.Common.{◌≡◌, inl, inr, ℕ, suc, ◌+◌, ◌<◌, length, drop, get_or, arith, List, [], ◌∷◌, ◌++◌, map, Bool, true, false, not, ◌||◌, cond, Option, Some, None, refl, sym, ◌∙◌, ap, reverse, if◌then◌else◌}
use Rattle.std.specs.List.{find}
use Rattle.std.specs.Option.{option_or}
use Rattle.std.proofs.Math.Seq.{drop-cons}
use Rattle.std.proofs.lemmas.List.Folds.{find-append}
use Rattle.lt_definitions.specs.Types.{Chars, same_name, has_name, names_joined, TypeTree, type_names, types_names, row}
use Rattle.lt_definitions.specs.Terms.{TermTree, term_names, term_variables}
use Rattle.lt_definitions.proofs.SameNames.{bool_cases, name-true}
use Rattle.lt_nameless.proofs.BindingLemmas.{if-true, if-false}
use Rattle.lt_terms.specs.declared.term.TermNode.{TermNode}
use Rattle.lt_terms.specs.declared.term.TermNode.TheVariants.{Free, Bound, Const, App, Lam}
use Rattle.lt_terms.specs.Layout.{grow}
use Rattle.lt_terms.specs.Numberings.{node_names}
use Rattle.lt_conditions.specs.LooseNames.{first_loose, loose_grow}

-- the first loose type variable of a term
abbrev pub loose_of : List Chars → TermTree → Option Chars
loose_of allowed t = first_loose allowed (term_names t)

abbrev loose : List Chars → Chars → Bool
loose allowed a = not (has_name a allowed)

pub loose-grown : (allowed : List Chars) (before : List TermTree) (n : TermNode) → loose_grow allowed (map (loose_of allowed) before) n ≡ map (loose_of allowed) (grow before n)
loose-grown allowed before (Free x ty) = refl
loose-grown allowed before (Bound x) = refl
loose-grown allowed before (Const c ts) = refl
loose-grown allowed (a ∷ f ∷ before) (App i j) = ap (λ o. o ∷ map (loose_of allowed) before) (sym (find-append (loose allowed) (term_names f) (term_names a)))
loose-grown allowed (a ∷ []) (App i j) = refl
loose-grown allowed [] (App i j) = refl
loose-grown allowed (b ∷ before) (Lam x ty i) = ap (λ o. o ∷ map (loose_of allowed) before) (sym (find-append (loose allowed) (node_names (Lam x ty i)) (term_names b)))
loose-grown allowed [] (Lam x ty i) = refl

-- names that stand more than once count once

or-none : {A : Type 0} (o : Option A) → option_or o None ≡ o
or-none None = refl
or-none (Some x) = refl

or-on : {A : Type 0} (o p q : Option A) → option_or (option_or o p) q ≡ option_or o (option_or p q)
or-on None p q = refl
or-on (Some x) p q = refl

none-passes : (p : Chars → Bool) (x : Chars) (b : Bool) (o : Option Chars) → p x ≡ b → cond b (Some x) o ≡ None → (p x ≡ false) × (o ≡ None)
none-passes p x true o e h = absurd (cc h)
none-passes p x false o e h = (e, h)

-- a name that is among names none of which passes
none-among : (p : Chars → Bool) (y : Chars) (xs : List Chars) → find p xs ≡ None → has_name y xs ≡ true → p y ≡ false
none-among p y [] h k = absurd (cc k)
none-among p y (x ∷ xs) h k =
    let both = none-passes p x (p x) (find p xs) refl h in
    elim (bool_cases (same_name y x)) [
      | inl e ↦ ap p (name-true y x e) ∙ both.0
      | inr e ↦ none-among p y xs both.1 (sym (ap (λ (b : Bool). b || has_name y xs) e) ∙ k)
    ]

passed-over : (p : Chars → Bool) (y : Chars) (xs ys : List Chars) (o : Option Chars) → find p xs ≡ o → has_name y xs ≡ true → option_or o (find p ys) ≡ option_or o (cond (p y) (Some y) (find p ys))
passed-over p y xs ys (Some v) h k = refl
passed-over p y xs ys None h k = ap (λ (b : Bool). cond b (Some y) (find p ys)) (sym (none-among p y xs h k))

one-name : (b : Bool) (y : Chars) (o : Option Chars) → option_or (cond b (Some y) None) o ≡ cond b (Some y) o
one-name true y o = refl
one-name false y o = refl

found-joined : (p : Chars → Bool) (xs ys : List Chars) → find p (names_joined xs ys) ≡ option_or (find p xs) (find p ys)
found-joined p xs [] = sym (or-none (find p xs))
found-joined p xs (y ∷ ys) = elim (bool_cases (has_name y xs)) [
  | inl e ↦ ap (λ (ns : List Chars). find p (names_joined ns ys)) (if-true (has_name y xs) xs (xs ++ y ∷ []) e) ∙ found-joined p xs ys
      ∙ passed-over p y xs ys (find p xs) refl e
  | inr e ↦ ap (λ (ns : List Chars). find p (names_joined ns ys)) (if-false (has_name y xs) xs (xs ++ y ∷ []) e) ∙ found-joined p (xs ++ y ∷ []) ys
      ∙ ap (λ o. option_or o (find p ys)) (find-append p xs (y ∷ [])) ∙ or-on (find p xs) (find p (y ∷ [])) (find p ys)
      ∙ ap (option_or (find p xs)) (one-name (p y) y (find p ys))
]

pub loose-variables : (allowed : List Chars) (t : TermTree) → first_loose allowed (term_variables t) ≡ loose_of allowed t
loose-variables allowed t = found-joined (loose allowed) [] (term_names t)

-- ---- the first of several types

types-at : (allowed : List Chars) (types : List TypeTree) (i : ℕ) (ty : TypeTree) → i < length types → ty ≡ get_or types i ty
    → first_loose allowed (types_names (row (drop i types))) ≡ option_or (first_loose allowed (type_names ty)) (first_loose allowed (types_names (row (drop (i + 1) types))))
types-at allowed types i ty h e =
    let next : suc i ≡ i + 1 = omega arith in
    ap (λ (ts : List TypeTree). first_loose allowed (types_names (row ts))) (drop-cons types i ty h ∙ (λ j. sym e j ∷ drop (next j) types))
    ∙ find-append (loose allowed) (type_names ty) (types_names (row (drop (i + 1) types)))

pub types-some : (allowed : List Chars) (types : List TypeTree) (i : ℕ) (ty : TypeTree) (name : Chars) (o : Option Chars) → i < length types → ty ≡ get_or types i ty
    → first_loose allowed (types_names (row types)) ≡ first_loose allowed (types_names (row (drop i types))) → o ≡ first_loose allowed (type_names ty) → o ≡ Some name
    → Some name ≡ first_loose allowed (types_names (row types))
types-some allowed types i ty name o h e k f g =
    sym (k ∙ types-at allowed types i ty h e ∙ ap (λ p. option_or p (first_loose allowed (types_names (row (drop (i + 1) types))))) (sym f ∙ g))

pub types-none : (allowed : List Chars) (types : List TypeTree) (i : ℕ) (ty : TypeTree) (o : Option Chars) → i < length types → ty ≡ get_or types i ty
    → first_loose allowed (types_names (row types)) ≡ first_loose allowed (types_names (row (drop i types))) → o ≡ first_loose allowed (type_names ty) → o ≡ None
    → first_loose allowed (types_names (row types)) ≡ first_loose allowed (types_names (row (drop (i + 1) types)))
types-none allowed types i ty o h e k f g =
    k ∙ types-at allowed types i ty h e ∙ ap (λ p. option_or p (first_loose allowed (types_names (row (drop (i + 1) types))))) (sym f ∙ g)
