-- Alpha equality as a relation, as a test, and as equality of nameless terms.
use Rattle.std.proofs.Common.{◌≡◌, ◌⊎◌, inl, inr, ◌↔◌, zero, suc, List, [], ◌∷◌, Bool, true, false, if◌then◌else◌, map, refl, sym, ◌∙◌, ap, subst}
use Rattle.lt_definitions.specs.Types.{Chars, same_name, same_type, same_types, row}
use Rattle.lt_definitions.specs.Terms.{TermTree, free_variable, bound_name, constant, application, abstraction}
use Rattle.lt_definitions.specs.Alpha.{ArePaired, AreAlpha, are_paired, are_alpha}
use Rattle.lt_nameless.specs.Nameless.{Nameless, nameless_free, nameless_bound, nameless_loose, nameless_constant, nameless_application, nameless_abstraction, deeper, nameless_name, nameless}
use Rattle.lt_definitions.proofs.SameNames.{true-false, bool_cases, both-true, true-both, name-true, true-name, name-false, false-name, type-true, true-type, row-true, true-row}

-- the test

pick : (a b c : Bool) → (if a then b else (if b then false else c)) ≡ true → ((a ≡ true) × (b ≡ true)) ⊎ ((a ≡ false) × (b ≡ false) × (c ≡ true))
pick true b c e = inl (refl, e)
pick false true c e = absurd (true-false (sym e))
pick false false c e = inr (refl, refl, e)

unpick : (a b c : Bool) → ((a ≡ true) × (b ≡ true)) ⊎ ((a ≡ false) × (b ≡ false) × (c ≡ true)) → (if a then b else (if b then false else c)) ≡ true
unpick a b c (inl h) = ap (λ d. if d then b else (if b then false else c)) h.0 ∙ h.1
unpick a b c (inr h) = ap (λ d. if d then b else (if b then false else c)) h.0 ∙ ap (λ d. if d then false else c) h.1 ∙ h.2

pub paired-is : (ps : List (Chars × Chars)) (x y : Chars) → are_paired ps x y ≡ true → ArePaired ps x y
paired-is [] x y e = name-true x y e
paired-is (p ∷ ps) x y e = elim (pick (same_name x p.0) (same_name y p.1) (are_paired ps x y) e) [
  | inl h ↦ inl (name-true x p.0 h.0, name-true y p.1 h.1)
  | inr h ↦ inr (name-false x p.0 h.0, name-false y p.1 h.1, paired-is ps x y h.2)
]

pub is-paired : (ps : List (Chars × Chars)) (x y : Chars) → ArePaired ps x y → are_paired ps x y ≡ true
is-paired [] x y h = true-name x y h
is-paired (p ∷ ps) x y (inl h) = unpick (same_name x p.0) (same_name y p.1) (are_paired ps x y) (inl (true-name x p.0 h.0, true-name y p.1 h.1))
is-paired (p ∷ ps) x y (inr h) =
    unpick (same_name x p.0) (same_name y p.1) (are_paired ps x y) (inr (false-name x p.0 h.0, false-name y p.1 h.1, is-paired ps x y h.2))

pub alpha-is : (ps : List (Chars × Chars)) (s t : TermTree) → are_alpha ps s t ≡ true → AreAlpha ps s t
alpha-is ps (free_variable x t) (free_variable y u) e =
    let h = both-true (same_name x y) (same_type t u) e in (name-true x y h.0, type-true t u h.1)
alpha-is ps (bound_name x) (bound_name y) e = paired-is ps x y e
alpha-is ps (constant c ts) (constant d us) e =
    let h = both-true (same_name c d) (same_types (row ts) (row us)) e in (name-true c d h.0, row-true ts us h.1)
alpha-is ps (application f a) (application g b) e =
    let h = both-true (are_alpha ps f g) (are_alpha ps a b) e in (alpha-is ps f g h.0, alpha-is ps a b h.1)
alpha-is ps (abstraction x t b) (abstraction y u c) e =
    let h = both-true (same_type t u) (are_alpha ((x, y) ∷ ps) b c) e in (type-true t u h.0, alpha-is ((x, y) ∷ ps) b c h.1)
alpha-is ps s t e = absurd (true-false (sym e))

pub is-alpha : (ps : List (Chars × Chars)) (s t : TermTree) → AreAlpha ps s t → are_alpha ps s t ≡ true
is-alpha ps (free_variable x t) (free_variable y u) h = true-both (same_name x y) (same_type t u) (true-name x y h.0) (true-type t u h.1)
is-alpha ps (bound_name x) (bound_name y) h = is-paired ps x y h
is-alpha ps (constant c ts) (constant d us) h = true-both (same_name c d) (same_types (row ts) (row us)) (true-name c d h.0) (true-row ts us h.1)
is-alpha ps (application f a) (application g b) h = true-both (are_alpha ps f g) (are_alpha ps a b) (is-alpha ps f g h.0) (is-alpha ps a b h.1)
is-alpha ps (abstraction x t b) (abstraction y u c) h =
    true-both (same_type t u) (are_alpha ((x, y) ∷ ps) b c) (true-type t u h.0) (is-alpha ((x, y) ∷ ps) b c h.1)
is-alpha ps s t h = absurd h

-- nameless terms

abbrev pub lefts : List (Chars × Chars) → List Chars
lefts ps = map (λ p. p.0) ps

abbrev pub rights : List (Chars × Chars) → List Chars
rights ps = map (λ p. p.1) ps

pub name-hit : (b : Chars) (bs : List Chars) (x : Chars) → same_name x b ≡ true → nameless_name (b ∷ bs) x ≡ nameless_bound 0
name-hit b bs x e = ap (λ c. if c then nameless_bound 0 else deeper (nameless_name bs x)) e

pub name-miss : (b : Chars) (bs : List Chars) (x : Chars) → same_name x b ≡ false → nameless_name (b ∷ bs) x ≡ deeper (nameless_name bs x)
name-miss b bs x e = ap (λ c. if c then nameless_bound 0 else deeper (nameless_name bs x)) e

deeper-zero : (t : Nameless) → deeper t ≡ nameless_bound 0 → ⊥
deeper-zero (nameless_bound i) e = cc e
deeper-zero t e = cc e

-- what deeper undoes
abbrev shallower : Nameless → Nameless
shallower (nameless_bound zero) = nameless_bound 0
shallower (nameless_bound (suc i)) = nameless_bound i
shallower t = t

shallower-deeper : (t : Nameless) → shallower (deeper t) ≡ t
shallower-deeper (nameless_bound i) = refl
shallower-deeper t = refl

deeper-inj : (s t : Nameless) → deeper s ≡ deeper t → s ≡ t
deeper-inj s t e = sym (shallower-deeper s) ∙ ap shallower e ∙ shallower-deeper t

pub paired-nameless : (ps : List (Chars × Chars)) (x y : Chars) → ArePaired ps x y → nameless_name (lefts ps) x ≡ nameless_name (rights ps) y
paired-nameless [] x y h = ap nameless_loose h
paired-nameless (p ∷ ps) x y (inl h) =
    name-hit p.0 (lefts ps) x (true-name x p.0 h.0) ∙ sym (name-hit p.1 (rights ps) y (true-name y p.1 h.1))
paired-nameless (p ∷ ps) x y (inr h) =
    name-miss p.0 (lefts ps) x (false-name x p.0 h.0) ∙ ap deeper (paired-nameless ps x y h.2) ∙ sym (name-miss p.1 (rights ps) y (false-name y p.1 h.1))

pub nameless-paired : (ps : List (Chars × Chars)) (x y : Chars) → nameless_name (lefts ps) x ≡ nameless_name (rights ps) y → ArePaired ps x y
nameless-paired [] x y e = cc e
nameless-paired (p ∷ ps) x y e = elim (bool_cases (same_name x p.0)) [
  | inl l ↦ elim (bool_cases (same_name y p.1)) [
    | inl r ↦ inl (name-true x p.0 l, name-true y p.1 r)
    | inr r ↦ absurd (deeper-zero (nameless_name (rights ps) y) (sym (name-miss p.1 (rights ps) y r) ∙ sym e ∙ name-hit p.0 (lefts ps) x l))
  ]
  | inr l ↦ elim (bool_cases (same_name y p.1)) [
    | inl r ↦ absurd (deeper-zero (nameless_name (lefts ps) x) (sym (name-miss p.0 (lefts ps) x l) ∙ e ∙ name-hit p.1 (rights ps) y r))
    | inr r ↦ inr (
      name-false x p.0 l,
      name-false y p.1 r,
      nameless-paired ps x y
          (deeper-inj (nameless_name (lefts ps) x) (nameless_name (rights ps) y) (sym (name-miss p.0 (lefts ps) x l) ∙ e ∙ name-miss p.1 (rights ps) y r)),
    )
  ]
]

-- a bound name's nameless form
abbrev pub IsPlace : Nameless → Type 0
IsPlace (nameless_bound i) = Unit {0}
IsPlace (nameless_loose x) = Unit {0}
IsPlace _ = ⊥

pub deeper-place : (t : Nameless) → IsPlace t → IsPlace (deeper t)
deeper-place (nameless_bound i) h = tt
deeper-place (nameless_loose x) h = tt
deeper-place t h = absurd h

pub place : (bs : List Chars) (x : Chars) → IsPlace (nameless_name bs x)
place [] x = tt
place (b ∷ bs) x = elim (bool_cases (same_name x b)) [
  | inl e ↦ subst (λ (n : Nameless). IsPlace n) (sym (name-hit b bs x e)) tt
  | inr e ↦ subst (λ (n : Nameless). IsPlace n) (sym (name-miss b bs x e)) (deeper-place (nameless_name bs x) (place bs x))
]

pub alpha-nameless : (ps : List (Chars × Chars)) (s t : TermTree) → AreAlpha ps s t → nameless (lefts ps) s ≡ nameless (rights ps) t
alpha-nameless ps (free_variable x t) (free_variable y u) h = λ i. nameless_free (h.0 i) (h.1 i)
alpha-nameless ps (bound_name x) (bound_name y) h = paired-nameless ps x y h
alpha-nameless ps (constant c ts) (constant d us) h = λ i. nameless_constant (h.0 i) (h.1 i)
alpha-nameless ps (application f a) (application g b) h = λ i. nameless_application (alpha-nameless ps f g h.0 i) (alpha-nameless ps a b h.1 i)
alpha-nameless ps (abstraction x t b) (abstraction y u c) h = λ i. nameless_abstraction (h.0 i) (alpha-nameless ((x, y) ∷ ps) b c h.1 i)
alpha-nameless ps s t h = absurd h

pub nameless-alpha : (ps : List (Chars × Chars)) (s t : TermTree) → nameless (lefts ps) s ≡ nameless (rights ps) t → AreAlpha ps s t
nameless-alpha ps (free_variable x t) (free_variable y u) e = let a : x ≡ y = cc e in let b : t ≡ u = cc e in (a, b)
nameless-alpha ps (bound_name x) (bound_name y) e = nameless-paired ps x y e
nameless-alpha ps (bound_name x) t e = absurd (subst (λ (n : Nameless). IsPlace n) e (place (lefts ps) x))
nameless-alpha ps s (bound_name y) e = absurd (subst (λ (n : Nameless). IsPlace n) (sym e) (place (rights ps) y))
nameless-alpha ps (constant c ts) (constant d us) e = let a : c ≡ d = cc e in let b : ts ≡ us = cc e in (a, b)
nameless-alpha ps (application f a) (application g b) e =
    let first : nameless (lefts ps) f ≡ nameless (rights ps) g = cc e in
    let second : nameless (lefts ps) a ≡ nameless (rights ps) b = cc e in
    (nameless-alpha ps f g first, nameless-alpha ps a b second)
nameless-alpha ps (abstraction x t b) (abstraction y u c) e =
    let first : t ≡ u = cc e in
    let second : nameless (x ∷ lefts ps) b ≡ nameless (y ∷ rights ps) c = cc e in
    (first, nameless-alpha ((x, y) ∷ ps) b c second)
nameless-alpha ps s t e = absurd (cc e)

pub alpha_is_nameless : (s t : TermTree) → AreAlpha [] s t ↔ (nameless [] s ≡ nameless [] t)
alpha_is_nameless s t = (alpha-nameless [] s t, nameless-alpha [] s t)

pub alpha_is_tested : (s t : TermTree) → (are_alpha [] s t ≡ true) ↔ AreAlpha [] s t
alpha_is_tested s t = (alpha-is [] s t, is-alpha [] s t)
