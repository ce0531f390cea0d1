-- Lists of names of which each stands once, and the sets that they make.
use Rattle.std.proofs.Common.{◌≡◌, inl, inr, ℕ, suc, ◌+◌, ◌≤◌, ◌<◌, List, [], ◌∷◌, ◌++◌, length, Bool, true, false, not, ◌||◌, ◌&&◌, cond, if◌then◌else◌, nat_eq, Option, Some, None, refl, sym, ◌∙◌, ap, subst, arith, length-append}
use Rattle.std.specs.List.{find, list_all, list_any}
use Rattle.std.proofs.lemmas.List.Folds.{list_any-append}
use Rattle.std.proofs.lemmas.Bool.Decides.{nat_tests}
use Rattle.lt_definitions.specs.Types.{Chars, same_name, has_name, names_joined, are_distinct}
use Rattle.lt_definitions.specs.Terms.{TermTree, term_variables}
use Rattle.lt_definitions.specs.Theory.{loose_in, variables_test}
use Rattle.lt_definitions.proofs.SameNames.{bool_cases, name-true, true-name, false-name, name-false, true-false}
use Rattle.lt_nameless.proofs.BindingLemmas.{if-true, if-false}

or-false : (b : Bool) → (b || false) ≡ b
or-false true = refl
or-false false = refl

or-on : (a b c : Bool) → ((a || b) || c) ≡ (a || (b || c))
or-on true b c = refl
or-on false b c = refl

or-true : (a b : Bool) → a ≡ true → (a || b) ≡ true
or-true a b e = ap (λ (c : Bool). c || b) e

has-last : (a y : Chars) (xs : List Chars) → has_name a (xs ++ y ∷ []) ≡ (has_name a xs || same_name a y)
has-last a y xs = list_any-append (same_name a) xs (y ∷ []) ∙ ap (λ (b : Bool). has_name a xs || b) (or-false (same_name a y))

-- a name that is there twice adds nothing
absorbed : (a y : Chars) (xs ys : List Chars) → has_name y xs ≡ true → (has_name a xs || has_name a ys) ≡ (has_name a xs || (same_name a y || has_name a ys))
absorbed a y xs ys h = elim (bool_cases (same_name a y)) [
  | inl e ↦ let here : has_name a xs ≡ true = ap (λ (z : Chars). has_name z xs) (name-true a y e) ∙ h in
      or-true (has_name a xs) (has_name a ys) here ∙ sym (or-true (has_name a xs) (same_name a y || has_name a ys) here)
  | inr e ↦ ap (λ (b : Bool). has_name a xs || b) (sym (ap (λ (b : Bool). b || has_name a ys) e))
]

pub has-joined : (a : Chars) (xs ys : List Chars) → has_name a (names_joined xs ys) ≡ (has_name a xs || has_name a ys)
has-joined a xs [] = sym (or-false (has_name a xs))
has-joined a xs (y ∷ ys) = elim (bool_cases (has_name y xs)) [
  | inl e ↦ ap (λ (ns : List Chars). has_name a (names_joined ns ys)) (if-true (has_name y xs) xs (xs ++ y ∷ []) e) ∙ has-joined a xs ys ∙ absorbed a y xs ys e
  | inr e ↦ ap (λ (ns : List Chars). has_name a (names_joined ns ys)) (if-false (has_name y xs) xs (xs ++ y ∷ []) e) ∙ has-joined a (xs ++ y ∷ []) ys
      ∙ ap (λ (b : Bool). b || has_name a ys) (has-last a y xs) ∙ or-on (has_name a xs) (same_name a y) (has_name a ys)
]

find-same : (p q : Chars → Bool) (xs : List Chars) → ((a : Chars) → p a ≡ q a) → find p xs ≡ find q xs
find-same p q [] h = refl
find-same p q (x ∷ xs) h = λ i. cond (h x i) (Some x) (find-same p q xs h i)

-- the variables that a set allows are those that its names allow
pub allowed-set : (params : List Chars) (t : TermTree) → variables_test (names_joined [] params) t ≡ variables_test params t
allowed-set params t =
    ap loose_in (find-same (λ a. not (has_name a (names_joined [] params))) (λ a. not (has_name a params)) (term_variables t) (λ a. ap not (has-joined a [] params)))

-- ---- how many names a set has

same-turned : (x y : Chars) → same_name x y ≡ same_name y x
same-turned x y = elim (bool_cases (same_name x y)) [
  | inl e ↦ e ∙ sym (true-name y x (sym (name-true x y e)))
  | inr e ↦ e ∙ sym (false-name y x (λ k. name-false x y e (sym k)))
]

-- none of the second list is in the first
abbrev apart : List Chars → List Chars → Bool
apart xs [] = true
apart xs (y ∷ ys) = not (has_name y xs) && apart xs ys

apart-none : (ys : List Chars) → apart [] ys ≡ true
apart-none [] = refl
apart-none (y ∷ ys) = apart-none ys

parted : (a b c d : Bool) → (not (a || b) && (c && not d)) ≡ ((not a && c) && not (b || d))
parted true b c d = refl
parted false true c d = and-false c
  where
    and-false : (c : Bool) → false ≡ (c && false)
    and-false true = refl
    and-false false = refl
parted false false c d = refl

apart-last : (xs ys : List Chars) (x : Chars) → apart (xs ++ x ∷ []) ys ≡ (apart xs ys && not (has_name x ys))
apart-last xs [] x = refl
apart-last xs (y ∷ ys) x =
    (λ i. not (has-last y x xs i) && apart-last xs ys x i)
    ∙ parted (has_name y xs) (same_name y x) (apart xs ys) (has_name x ys)
    ∙ ap (λ (b : Bool). (not (has_name y xs) && apart xs ys) && not (b || has_name x ys)) (same-turned y x)

longest : (xs ys : List Chars) → length (names_joined xs ys) ≤ length xs + length ys
longest xs [] = omega arith
longest xs (y ∷ ys) = elim (bool_cases (has_name y xs)) [
  | inl e ↦ let same : length (names_joined (if has_name y xs then xs else (xs ++ y ∷ [])) ys) ≡ length (names_joined xs ys) =
      ap (λ (ns : List Chars). length (names_joined ns ys)) (if-true (has_name y xs) xs (xs ++ y ∷ []) e) in
      let rest = longest xs ys in omega (arith, same, rest)
  | inr e ↦ let same : length (names_joined (if has_name y xs then xs else (xs ++ y ∷ [])) ys) ≡ length (names_joined (xs ++ y ∷ []) ys) =
      ap (λ (ns : List Chars). length (names_joined ns ys)) (if-false (has_name y xs) xs (xs ++ y ∷ []) e) in
      let rest = longest (xs ++ y ∷ []) ys in omega (arith, same, rest, length-append xs (y ∷ []))
]

and-on : (a b c : Bool) → (a && (b && c)) ≡ ((a && b) && c)
and-on true b c = refl
and-on false b c = refl

swapped : (a b c d : Bool) → (a && ((b && c) && d)) ≡ ((a && b) && (c && d))
swapped true true c d = refl
swapped true false c d = refl
swapped false b c d = refl

-- the names are as many as can be exactly where each is new
counted : (xs ys : List Chars) → nat_eq (length (names_joined xs ys)) (length xs + length ys) ≡ (apart xs ys && are_distinct ys)
counted xs [] = let e : length xs ≡ length xs + 0 = omega arith in ap (nat_eq (length xs)) (sym e) ∙ same-number (length xs)
  where
    same-number : (n : ℕ) → nat_eq n n ≡ true
    same-number n = grind (arith, nat_tests)
counted xs (y ∷ ys) = elim (bool_cases (has_name y xs)) [
  | inl e ↦ ap (λ (ns : List Chars). nat_eq (length (names_joined ns ys)) (length xs + suc (length ys))) (if-true (has_name y xs) xs (xs ++ y ∷ []) e)
      ∙ too-few (length (names_joined xs ys)) (length xs) (length ys) (longest xs ys)
      ∙ sym (ap (λ (b : Bool). (not b && apart xs ys) && (not (has_name y ys) && are_distinct ys)) e)
  | inr e ↦ ap (λ (ns : List Chars). nat_eq (length (names_joined ns ys)) (length xs + suc (length ys))) (if-false (has_name y xs) xs (xs ++ y ∷ []) e)
      ∙ one-longer (length (names_joined (xs ++ y ∷ []) ys)) (length (xs ++ y ∷ [])) (length xs) (length ys) (length-append xs (y ∷ []))
      ∙ counted (xs ++ y ∷ []) ys
      ∙ ap (λ (b : Bool). b && are_distinct ys) (apart-last xs ys y)
      ∙ swapped true (apart xs ys) (not (has_name y ys)) (are_distinct ys)
      ∙ ap (λ (b : Bool). (not b && apart xs ys) && (not (has_name y ys) && are_distinct ys)) (sym e)
]
  where
    too-few : (n a b : ℕ) → n ≤ a + b → nat_eq n (a + suc b) ≡ false
    too-few n a b h = grind (arith, nat_tests)

    one-longer : (n k a b : ℕ) → k ≡ a + 1 → nat_eq n (a + suc b) ≡ nat_eq n (k + b)
    one-longer n k a b h = let e : a + suc b ≡ k + b = omega (arith, h) in ap (nat_eq n) e

pub distinct-set : (params : List Chars) → nat_eq (length (names_joined [] params)) (length params) ≡ are_distinct params
distinct-set params = let z : length params ≡ 0 + length params = omega arith in ap (nat_eq (length (names_joined [] params))) z ∙ counted [] params ∙ ap (λ (b : Bool). b && are_distinct params) (apart-none params)
