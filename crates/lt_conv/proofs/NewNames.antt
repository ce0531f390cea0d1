-- Names with numbers: which of them are new.
use Rattle.std.proofs.Common.{◌≡◌, inl, inr, ℕ, zero, suc, ◌+◌, ◌<◌, ◌≤◌, ◌^◌, List, [], ◌∷◌, ◌++◌, length, drop, Bool, true, false, ◌||◌, ◌&&◌, nat_eq, nat_lt, refl, sym, ◌∙◌, ap, subst, arith}
use Rattle.std.specs.List.{IsDistinct, AllByRecursion}
use Rattle.std.specs.Cmp.Lexicographic.{pointwise}
use Rattle.std.proofs.lemmas.Bool.{cases_Bool, cond-true, cond-false}
use Rattle.std.proofs.lemmas.Bool.Decides.{nat_tests}
use Rattle.std.proofs.lemmas.Cmp.{nat_list_eq_equiv}
use Rattle.std.proofs.lemmas.Fmt.{decimal_injective}
use Rattle.std.proofs.lemmas.Map.Made.{length-le_from_is_member}
use Rattle.lt_definitions.specs.Types.{Chars, same_name, has_name, TypeTree, same_type}
use Rattle.lt_definitions.proofs.SameNames.{true-false, name-true}
use Rattle.lt_nameless.specs.Nameless.{Nameless, nameless_free, nameless_bound, nameless_loose, nameless_constant, nameless_application, nameless_abstraction}
use Rattle.lt_nameless.specs.NamelessRules.{nameless_has_free}
use Rattle.lt_conv.specs.Everywhere.{free_names, v_name, first_new, new_name}
use Rattle.lt_conv.specs.Walks.{AreNamesOf, AreTaken, IsFirstNew}

-- ---- numbers are told apart by their names

v_name-apart : (m n : ℕ) → m < 2 ^ 64 → n < 2 ^ 64 → v_name m ≡ v_name n → m ≡ n
v_name-apart m n h k e = decimal_injective m n h k (ap (drop 1) e)

-- the names of the numbers below n
abbrev v_names : ℕ → List Chars
v_names zero = []
v_names (suc n) = v_name n ∷ v_names n

length-v_names : (n : ℕ) → length (v_names n) ≡ n
length-v_names zero = refl
length-v_names (suc n) = ap suc (length-v_names n)

apart : (x y : Chars) → (x ≡ y → ⊥) → same_name x y ≡ false
apart x y h = elim (cases_Bool (same_name x y)) [
  | inl e ↦ absurd (h (name-true x y e))
  | inr e ↦ e
]

apart-below : (m n : ℕ) → m < 2 ^ 64 → n ≤ m → AllByRecursion (λ y. pointwise nat_eq (v_name m) y ≡ false) (v_names n)
apart-below m zero h k = tt
apart-below m (suc n) h k = (
  apart (v_name m) (v_name n) (λ e. let same = v_name-apart m n h (omega (arith, h, k)) e in absurd (omega (arith, same, k))),
  apart-below m n h (omega (arith, k)),
)

distinct-v_names : (n : ℕ) → n ≤ 2 ^ 64 → IsDistinct (pointwise nat_eq) (v_names n)
unfolding IsDistinct
distinct-v_names zero h = tt
distinct-v_names (suc n) h = (apart-below n n (omega (arith, h)) (omega arith), distinct-v_names n (omega (arith, h)))

pub taken-more : (n : ℕ) (names : List Chars) → AreTaken n names → has_name (v_name n) names ≡ true → AreTaken (n + 1) names
taken-more n names h e j k = elim (cases_Bool (nat_lt j n)) [
  | inl l ↦ h j (grind (arith, nat_tests))
  | inr l ↦ let same : j ≡ n = grind (arith, nat_tests) in subst (λ (i : ℕ). has_name (v_name i) names ≡ true) (sym same) e
]

or-cases : (a b : Bool) → (a || b) ≡ true → a ≡ false → b ≡ true
or-cases true b e h = absurd (true-false h)
or-cases false b e h = e

among : (n : ℕ) (names : List Chars) → AreTaken n names → (q : Chars) → has_name q (v_names n) ≡ true → has_name q names ≡ true
among zero names h q e = absurd (true-false (sym e))
among (suc n) names h q e = elim (cases_Bool (same_name q (v_name n))) [
  | inl k ↦ subst (λ (x : Chars). has_name x names ≡ true) (sym (name-true q (v_name n) k)) (h n (omega arith))
  | inr k ↦ among n names (λ j l. h j (omega (arith, l))) q (or-cases (same_name q (v_name n)) (has_name q (v_names n)) e k)
]

-- so there are as many at least
pub taken-few : (n : ℕ) (names : List Chars) → n ≤ 2 ^ 64 → AreTaken n names → n ≤ length names
taken-few n names h t =
    let l = length-v_names n in
    let k = length-le_from_is_member nat_list_eq_equiv (v_names n) names (distinct-v_names n h) (among n names t) in
    omega (arith, l, k)

-- ---- the first new one

first-is : (left n k : ℕ) (names : List Chars) → ((j : ℕ) → n ≤ j → j < k → has_name (v_name j) names ≡ true) → has_name (v_name k) names ≡ false
    → n ≤ k → k ≤ n + left → first_new left n names ≡ k
first-is zero n k names t u l h = omega (arith, l, h)
first-is (suc left) n k names t u l h = elim (cases_Bool (nat_lt n k)) [
  | inl e ↦ let less : n < k = grind (arith, nat_tests) in
      cond-true (has_name (v_name n) names) (first_new left (suc n) names) n (t n (omega arith) less)
      ∙ first-is left (suc n) k names (λ j a b. t j (omega (arith, a)) b) u (omega (arith, less)) (omega (arith, h))
  | inr e ↦ let same : n ≡ k = grind (arith, nat_tests) in
      cond-false (has_name (v_name n) names) (first_new left (suc n) names) n (ap (λ (i : ℕ). has_name (v_name i) names) same ∙ u) ∙ same
]

pub new_name-is : (t : Nameless) (k : ℕ) → k < 2 ^ 64 → AreTaken k (free_names t) → has_name (v_name k) (free_names t) ≡ false → new_name t ≡ v_name k
unfolding new_name
new_name-is t k h a u = let few = taken-few k (free_names t) (omega (arith, h)) a in
    ap v_name (first-is (length (free_names t)) 0 k (free_names t) (λ j z l. a j l) u (omega arith) (omega (arith, few)))

-- .. by other names that are the same
pub first-new-is : (t : Nameless) (names : List Chars) (x : Chars) → AreNamesOf t names → IsFirstNew names x → x ≡ new_name t
first-new-is t names x h n =
    n.is ∙ sym (new_name-is t n.number n.fits (λ j l. sym (h (v_name j)) ∙ n.before j l) (sym (h (v_name n.number)) ∙ n.new))

-- the search ends at the first new one
record IsFound (names : List Chars) (k : ℕ) : Type 0 where
  fits : k < 2 ^ 64
  before : AreTaken k names
  new : has_name (v_name k) names ≡ false

first-found : (left n : ℕ) (names : List Chars) → AreTaken n names → length names ≤ n + left → n + left < 2 ^ 64 → IsFound names (first_new left n names)
first-found zero n names t l h = record {
  fits = omega (arith, h);
  before = t;
  new = elim (cases_Bool (has_name (v_name n) names)) [
    | inl e ↦ let few = taken-few (n + 1) names (omega (arith, h)) (taken-more n names t e) in absurd (omega (arith, few, l))
    | inr e ↦ e
  ];
}
first-found (suc left) n names t l h = elim (cases_Bool (has_name (v_name n) names)) [
  | inl e ↦ subst (IsFound names) (sym (cond-true (has_name (v_name n) names) (first_new left (suc n) names) n e))
      (first-found left (suc n) names (subst (λ (k : ℕ). AreTaken k names) (omega arith) (taken-more n names t e)) (omega (arith, l)) (omega (arith, h)))
  | inr e ↦ subst (IsFound names) (sym (cond-false (has_name (v_name n) names) (first_new left (suc n) names) n e))
      (record { fits = omega (arith, h); before = t; new = e })
]

pub new_name-first : (t : Nameless) → length (free_names t) < 2 ^ 64 → IsFirstNew (free_names t) (new_name t)
unfolding new_name
new_name-first t h =
    let names = free_names t in
    let r = first-found (length names) 0 names (λ j l. absurd (omega (arith, l))) (omega arith) (omega (arith, h)) in
    record { number = first_new (length names) 0 names; is = refl; fits = r.fits; before = r.before; new = r.new }

-- ---- what isn't among the names isn't free

no-and : (a b : Bool) → a ≡ false → (a && b) ≡ false
no-and a b e = ap (λ (c : Bool). c && b) e

has-left : (x : Chars) (xs ys : List Chars) → has_name x (xs ++ ys) ≡ false → has_name x xs ≡ false
has-left x [] ys e = refl
has-left x (y ∷ xs) ys e = elim (cases_Bool (same_name x y)) [
  | inl h ↦ absurd (true-false (sym (ap (λ (c : Bool). c || has_name x (xs ++ ys)) h) ∙ e))
  | inr h ↦ ap (λ (c : Bool). c || has_name x xs) h ∙ has-left x xs ys (sym (ap (λ (c : Bool). c || has_name x (xs ++ ys)) h) ∙ e)
]

has-right : (x : Chars) (xs ys : List Chars) → has_name x (xs ++ ys) ≡ false → has_name x ys ≡ false
has-right x [] ys e = e
has-right x (y ∷ xs) ys e = elim (cases_Bool (same_name x y)) [
  | inl h ↦ absurd (true-false (sym (ap (λ (c : Bool). c || has_name x (xs ++ ys)) h) ∙ e))
  | inr h ↦ has-right x xs ys (sym (ap (λ (c : Bool). c || has_name x (xs ++ ys)) h) ∙ e)
]

pub not-free : (x : Chars) (ty : TypeTree) (t : Nameless) → has_name x (free_names t) ≡ false → nameless_has_free x ty t ≡ false
not-free x ty (nameless_free y u) e = no-and (same_name x y) (same_type ty u) (first (same_name x y) e)
  where
    first : (b : Bool) → (b || false) ≡ false → b ≡ false
    first true q = absurd (true-false q)
    first false q = refl
not-free x ty (nameless_bound i) e = refl
not-free x ty (nameless_loose y) e = refl
not-free x ty (nameless_constant c ts) e = refl
not-free x ty (nameless_application f a) e =
    (λ i. not-free x ty f (has-left x (free_names f) (free_names a) e) i || not-free x ty a (has-right x (free_names f) (free_names a) e) i)
not-free x ty (nameless_abstraction u b) e = not-free x ty b e

pub first-new-free : (t : Nameless) (names : List Chars) (x : Chars) (ty : TypeTree) → AreNamesOf t names → IsFirstNew names x → nameless_has_free x ty t ≡ false
first-new-free t names x ty h n = not-free x ty t (sym (h x) ∙ ap (λ y. has_name y names) n.is ∙ n.new)
