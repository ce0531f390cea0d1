-- The way of writing that is printed, and that it stands for an alpha-equal term.
use Rattle.std.proofs.Common.{◌≡◌, ◌≢◌, inl, inr, ℕ, ◌+◌, ◌<◌, ◌∙◌, ap, sym, refl, Bool, true, false, List, [], ◌∷◌, ◌++◌, length, codes, arith}
use Rattle.std.specs.Prelude.{◌&&◌, ◌||◌, not, ◌^◌}
use Rattle.std.specs.Fmt.{decimal}
use Rattle.std.proofs.lemmas.Fmt.{decimal_injective}
use Rattle.lt_definitions.specs.Types.{Chars, same_name, has_name, TypeTree}
use Rattle.lt_definitions.specs.Terms.{TermTree, free_variable, bound_name, constant, application, abstraction, has_loose, HasNoLooseNames}
use Rattle.lt_definitions.specs.Alpha.{IsAlphaEqual}
use Rattle.lt_nameless.specs.Nameless.{Nameless, nameless_application, nameless_abstraction, deeper, nameless_name, nameless}
use Rattle.lt_definitions.specs.Printing.{printed_bound}
use Rattle.lt_definitions.proofs.SameNames.{bool_cases, true-name, false-name}
use Rattle.lt_nameless.proofs.BindingLemmas.{if-true, if-false}
use Rattle.lt_nameless.proofs.Alphas.{name-hit, name-miss, nameless-alpha}
use Rattle.lt_texts.specs.Named.{binder_count}
use Rattle.lt_texts.specs.Writing.{TermText, word, bound, free, lambda, applied, TermTexts, no_more_terms, more_terms, term_of_text, applied_to}

abbrev pub with_arguments : TermText → TermTexts → TermText
with_arguments t no_more_terms = t
with_arguments t (more_terms a more) = applied t a more

-- a binder's name by its depth
abbrev pub name_at : ℕ → Chars
name_at d = codes "x" ++ decimal d

-- the text of a term under binders with these arguments behind it
abbrev pub shown : TermTree → List Chars → TermTexts → TermText
shown (free_variable x ty) bs args = with_arguments (free x ty) args
shown (bound_name x) bs args = with_arguments (bound (printed_bound x bs)) args
shown (constant c ts) bs args = with_arguments (word c ts) args
shown (application f a) bs args = shown f bs (more_terms (shown a bs no_more_terms) args)
shown (abstraction x ty b) bs args = with_arguments (lambda (name_at (length bs)) ty (shown b (x ∷ bs) no_more_terms)) args

-- the printed names of binders
abbrev pub names_at : List Chars → List Chars
names_at [] = []
names_at (b ∷ bs) = name_at (length bs) ∷ names_at bs

-- ---- bound names

one-name : (d e : ℕ) → d < 2 ^ 64 → e < 2 ^ 64 → name_at d ≡ name_at e → d ≡ e
one-name d e m n q = let same : decimal d ≡ decimal e = cc q in decimal_injective d e m n same

abbrev pub IsAt : Chars → ℕ → Type 0
IsAt x d = (e : ℕ) × (e < d) × (x ≡ name_at e)

pub printed_at : (bs : List Chars) (x : Chars) → has_name x bs ≡ true → IsAt (printed_bound x bs) (length bs)
printed_at [] x h = absurd (cc h)
printed_at (b ∷ bs) x h = elim (bool_cases (same_name x b)) [
  | inl y ↦ (length bs, omega arith, if-true (same_name x b) (name_at (length bs)) (printed_bound x bs) y)
  | inr n ↦
      let inner : has_name x bs ≡ true = ap (λ (z : Bool). z || has_name x bs) (sym n) ∙ h in
      let p = printed_at bs x inner in
      (p.0, omega (arith, p.1), if-false (same_name x b) (name_at (length bs)) (printed_bound x bs) n ∙ p.2)
]

bound-alike : (bs : List Chars) (x : Chars) → length bs < 2 ^ 64 → has_name x bs ≡ true → nameless_name (names_at bs) (printed_bound x bs) ≡ nameless_name bs x
bound-alike [] x m h = absurd (cc h)
bound-alike (b ∷ bs) x m h = elim (bool_cases (same_name x b)) [
  | inl y ↦
      ap (nameless_name (names_at (b ∷ bs))) (if-true (same_name x b) (name_at (length bs)) (printed_bound x bs) y)
      ∙ name-hit (name_at (length bs)) (names_at bs) (name_at (length bs)) (true-name (name_at (length bs)) (name_at (length bs)) refl)
      ∙ sym (name-hit b bs x y)
  | inr n ↦
      let inner : has_name x bs ≡ true = ap (λ (z : Bool). z || has_name x bs) (sym n) ∙ h in
      let p = printed_at bs x inner in
      let other : printed_bound x bs ≢ name_at (length bs) = λ q. let same : p.0 ≡ length bs = one-name p.0 (length bs) (omega (arith, m, p.1)) (omega (arith, m)) (sym p.2 ∙ q) in omega (arith, p.1, same) in
      ap (nameless_name (names_at (b ∷ bs))) (if-false (same_name x b) (name_at (length bs)) (printed_bound x bs) n)
      ∙ name-miss (name_at (length bs)) (names_at bs) (printed_bound x bs) (false-name (printed_bound x bs) (name_at (length bs)) other)
      ∙ ap deeper (bound-alike bs x (omega (arith, m)) inner)
      ∙ sym (name-miss b bs x n)
]

-- ---- terms

-- a nameless function applied to arguments
abbrev applied-all : Nameless → List Chars → TermTexts → Nameless
applied-all n ds no_more_terms = n
applied-all n ds (more_terms a more) = applied-all (nameless_application n (nameless ds (term_of_text a))) ds more

nameless-applied : (t : TermTree) (ds : List Chars) (args : TermTexts) → nameless ds (applied_to t args) ≡ applied-all (nameless ds t) ds args
nameless-applied t ds no_more_terms = refl
nameless-applied t ds (more_terms a more) = nameless-applied (application t (term_of_text a)) ds more

with-alike : (t : TermText) (ds : List Chars) (args : TermTexts) → nameless ds (term_of_text (with_arguments t args)) ≡ applied-all (nameless ds (term_of_text t)) ds args
with-alike t ds no_more_terms = refl
with-alike t ds (more_terms a more) = nameless-applied (application (term_of_text t) (term_of_text a)) ds more

-- each loose name has a binder
abbrev pub IsBoundIn : TermTree → List Chars → Type 0
IsBoundIn t bs = (x : Chars) → has_loose x t ≡ true → has_name x bs ≡ true

pub or_left : (a b : Bool) → a ≡ true → (a || b) ≡ true
or_left a b e = ap (λ (z : Bool). z || b) e

pub or_right : (a b : Bool) → b ≡ true → (a || b) ≡ true
or_right true b e = refl
or_right false b e = e

pub own_name : (x : Chars) → same_name x x ≡ true
own_name x = true-name x x refl

pub bound_body : (x : Chars) (ty : TypeTree) (b : TermTree) (bs : List Chars) → IsBoundIn (abstraction x ty b) bs → IsBoundIn b (x ∷ bs)
bound_body x ty b bs h y l = elim (bool_cases (same_name y x)) [
  | inl s ↦ or_left (same_name y x) (has_name y bs) s
  | inr n ↦ or_right (same_name y x) (has_name y bs) (h y (ap (λ (z : Bool). not z && has_loose y b) n ∙ l))
]

pub shown_alike : (t : TermTree) (bs : List Chars) (args : TermTexts) → IsBoundIn t bs → length bs + binder_count t < 2 ^ 64
    → nameless (names_at bs) (term_of_text (shown t bs args)) ≡ applied-all (nameless bs t) (names_at bs) args
shown_alike (free_variable x ty) bs args h m = with-alike (free x ty) (names_at bs) args
shown_alike (bound_name x) bs args h m =
    with-alike (bound (printed_bound x bs)) (names_at bs) args ∙ ap (λ (n : Nameless). applied-all n (names_at bs) args) (bound-alike bs x (omega (arith, m)) (h x (own_name x)))
shown_alike (constant c ts) bs args h m = with-alike (word c ts) (names_at bs) args
shown_alike (application f a) bs args h m =
    shown_alike f bs (more_terms (shown a bs no_more_terms) args) (λ x l. h x (or_left (has_loose x f) (has_loose x a) l)) (omega (arith, m))
    ∙ ap (λ (n : Nameless). applied-all (nameless_application (nameless bs f) n) (names_at bs) args)
    (shown_alike a bs no_more_terms (λ x l. h x (or_right (has_loose x f) (has_loose x a) l)) (omega (arith, m)))
shown_alike (abstraction x ty b) bs args h m =
    with-alike (lambda (name_at (length bs)) ty (shown b (x ∷ bs) no_more_terms)) (names_at bs) args
    ∙ ap (λ (n : Nameless). applied-all (nameless_abstraction ty n) (names_at bs) args)
    (shown_alike b (x ∷ bs) no_more_terms (bound_body x ty b bs h) (omega (arith, m)))

pub none_loose : (t : TermTree) → HasNoLooseNames t → IsBoundIn t []
none_loose t h x l = let clash : false ≡ true = sym (h x) ∙ l in absurd (cc clash)

pub shown_is_alpha : (t : TermTree) → HasNoLooseNames t → binder_count t < 2 ^ 64 → IsAlphaEqual (term_of_text (shown t [] no_more_terms)) t
shown_is_alpha t h m = nameless-alpha [] (term_of_text (shown t [] no_more_terms)) t (shown_alike t [] no_more_terms (none_loose t h) (omega (arith, m)))
