-- Reduction and alpha equality: alpha-equal terms take alpha-equal steps, so a term has one normal form, and one limit.
use Rattle.std.specs.Prelude.{◌≡◌, suc, ◌+◌, List, [], ◌∷◌, ◌++◌, true, false, ◌||◌, length, codes}
use Rattle.std.specs.Fmt.{decimal}
use Rattle.std.proofs.Common.{refl, sym, ap, ◌∙◌, inl, inr}
use Rattle.lt_definitions.specs.Types.{Chars, same_name, TypeTree, type_nodes, types_nodes, row}
use Rattle.lt_definitions.specs.Terms.{TermTree, free_variable, bound_name, constant, application, abstraction, term_nodes}
use Rattle.lt_definitions.specs.Alpha.{ArePaired, AreAlpha}
use Rattle.lt_definitions.specs.Binding.{opened}
use Rattle.lt_definitions.specs.Printing.{printed_bound}
use Rattle.lt_definitions.proofs.SameNames.{bool_cases, true-name, false-name}
use Rattle.lt_nameless.proofs.Alphas.{lefts, rights}
use Rattle.lt_nameless.proofs.BindingLemmas.{if-true, if-false}
use Rattle.lt_transport_definitions.specs.Reduction.{has_redex, is_abstraction, Steps, opens, in_head, in_argument, in_body, as_printed}

-- alpha-equal terms have as many nodes
pub alpha-nodes : (ps : List (Chars × Chars)) (s t : TermTree) → AreAlpha ps s t → term_nodes s ≡ term_nodes t
alpha-nodes ps (free_variable x t) (free_variable y u) h = ap (λ v. 1 + type_nodes v) h.1
alpha-nodes ps (bound_name x) (bound_name y) h = refl
alpha-nodes ps (constant c ts) (constant d us) h = ap (λ v. 1 + types_nodes (row v)) h.1
alpha-nodes ps (application f a) (application g b) h = λ i. 1 + (alpha-nodes ps f g h.0 i + alpha-nodes ps a b h.1 i)
alpha-nodes ps (abstraction x t b) (abstraction y u c) h = λ i. 1 + (type_nodes (h.0 i) + alpha-nodes ((x, y) ∷ ps) b c h.1 i)
alpha-nodes ps s t h = absurd h

-- both are abstractions, or neither
pub alpha-abstraction : (ps : List (Chars × Chars)) (s t : TermTree) → AreAlpha ps s t → is_abstraction s ≡ is_abstraction t
alpha-abstraction ps (free_variable x t) (free_variable y u) h = refl
alpha-abstraction ps (bound_name x) (bound_name y) h = refl
alpha-abstraction ps (constant c ts) (constant d us) h = refl
alpha-abstraction ps (application f a) (application g b) h = refl
alpha-abstraction ps (abstraction x t b) (abstraction y u c) h = refl
alpha-abstraction ps s t h = absurd h

pub redex-abstraction : (f a : TermTree) → is_abstraction f ≡ true → has_redex (application f a) ≡ true
redex-abstraction (free_variable x t) a h = absurd (cc)
redex-abstraction (bound_name x) a h = absurd (cc)
redex-abstraction (constant c ts) a h = absurd (cc)
redex-abstraction (application f b) a h = absurd (cc)
redex-abstraction (abstraction x t b) a h = refl

pub redex-other : (f a : TermTree) → is_abstraction f ≡ false → has_redex (application f a) ≡ (has_redex f || has_redex a)
redex-other (free_variable x t) a h = refl
redex-other (bound_name x) a h = refl
redex-other (constant c ts) a h = refl
redex-other (application f b) a h = refl
redex-other (abstraction x t b) a h = absurd (cc)

-- both have a redex, or neither
pub alpha-redex : (ps : List (Chars × Chars)) (s t : TermTree) → AreAlpha ps s t → has_redex s ≡ has_redex t
alpha-redex ps (free_variable x t) (free_variable y u) h = refl
alpha-redex ps (bound_name x) (bound_name y) h = refl
alpha-redex ps (constant c ts) (constant d us) h = refl
alpha-redex ps (application f a) (application g b) h = elim (bool_cases (is_abstraction f)) [
  | inl y ↦ redex-abstraction f a y ∙ sym (redex-abstraction g b (sym (alpha-abstraction ps f g h.0) ∙ y))
  | inr n ↦ redex-other f a n ∙ (λ i. alpha-redex ps f g h.0 i || alpha-redex ps a b h.1 i)
      ∙ sym (redex-other g b (sym (alpha-abstraction ps f g h.0) ∙ n))
]
alpha-redex ps (abstraction x t b) (abstraction y u c) h = alpha-redex ((x, y) ∷ ps) b c h.1
alpha-redex ps s t h = absurd h

-- opening by a variable makes no abstraction
opened-abstraction : (x v : Chars) (ty : TypeTree) (t : TermTree) → is_abstraction (opened x (free_variable v ty) t) ≡ is_abstraction t
opened-abstraction x v ty (free_variable y u) = refl
opened-abstraction x v ty (bound_name y) = elim (bool_cases (same_name x y)) [
  | inl s ↦ ap is_abstraction (if-true (same_name x y) (free_variable v ty) (bound_name y) s)
  | inr s ↦ ap is_abstraction (if-false (same_name x y) (free_variable v ty) (bound_name y) s)
]
opened-abstraction x v ty (constant c ts) = refl
opened-abstraction x v ty (application f a) = refl
opened-abstraction x v ty (abstraction y u b) = refl

-- and no redex
pub opened-redex : (x v : Chars) (ty : TypeTree) (t : TermTree) → has_redex (opened x (free_variable v ty) t) ≡ has_redex t
opened-redex x v ty (free_variable y u) = refl
opened-redex x v ty (bound_name y) = elim (bool_cases (same_name x y)) [
  | inl s ↦ ap has_redex (if-true (same_name x y) (free_variable v ty) (bound_name y) s)
  | inr s ↦ ap has_redex (if-false (same_name x y) (free_variable v ty) (bound_name y) s)
]
opened-redex x v ty (constant c ts) = refl
opened-redex x v ty (application f a) = elim (bool_cases (is_abstraction f)) [
  | inl y ↦ redex-abstraction (opened x (free_variable v ty) f) (opened x (free_variable v ty) a) (opened-abstraction x v ty f ∙ y)
      ∙ sym (redex-abstraction f a y)
  | inr n ↦ redex-other (opened x (free_variable v ty) f) (opened x (free_variable v ty) a) (opened-abstraction x v ty f ∙ n)
      ∙ (λ i. opened-redex x v ty f i || opened-redex x v ty a i) ∙ sym (redex-other f a n)
]
opened-redex x v ty (abstraction y u b) = elim (bool_cases (same_name x y)) [
  | inl s ↦ ap has_redex (if-true (same_name x y) b (opened x (free_variable v ty) b) s)
  | inr s ↦ ap has_redex (if-false (same_name x y) b (opened x (free_variable v ty) b) s) ∙ opened-redex x v ty b
]

-- what takes a step has a redex
pub steps-redex : (s u : TermTree) → Steps s u → has_redex s ≡ true
steps-redex s u (opens x ty b a) = refl
steps-redex s u (in_head f g a n h) = redex-other f a n ∙ ap (λ r. r || has_redex a) (steps-redex f g h)
steps-redex s u (in_argument f a c n m h) = redex-other f a n ∙ ap (λ r. r || has_redex a) m ∙ steps-redex a c h
steps-redex s u (in_body x v ty b c closing n h k) = sym (opened-redex x v ty b) ∙ steps-redex (opened x (free_variable v ty) b) c h

same_count : (ps : List (Chars × Chars)) → length (lefts ps) ≡ length (rights ps)
same_count [] = refl
same_count (p ∷ ps) = ap suc (same_count ps)

bound-alike : (ps : List (Chars × Chars)) (x y : Chars) → ArePaired ps x y → printed_bound x (lefts ps) ≡ printed_bound y (rights ps)
bound-alike [] x y h = h
bound-alike (p ∷ ps) x y (inl h) =
    if-true (same_name x p.0) (codes "x" ++ decimal (length (lefts ps))) (printed_bound x (lefts ps)) (true-name x p.0 h.0)
    ∙ ap (λ n. codes "x" ++ decimal n) (same_count ps)
    ∙ sym (if-true (same_name y p.1) (codes "x" ++ decimal (length (rights ps))) (printed_bound y (rights ps)) (true-name y p.1 h.1))
bound-alike (p ∷ ps) x y (inr h) =
    if-false (same_name x p.0) (codes "x" ++ decimal (length (lefts ps))) (printed_bound x (lefts ps)) (false-name x p.0 h.0)
    ∙ bound-alike ps x y h.2
    ∙ sym (if-false (same_name y p.1) (codes "x" ++ decimal (length (rights ps))) (printed_bound y (rights ps)) (false-name y p.1 h.1))

-- alpha-equal terms have one form with printed binder names
pub printed-alike : (ps : List (Chars × Chars)) (s t : TermTree) → AreAlpha ps s t → as_printed (lefts ps) s ≡ as_printed (rights ps) t
printed-alike ps (free_variable x t) (free_variable y u) h = λ i. free_variable (h.0 i) (h.1 i)
printed-alike ps (bound_name x) (bound_name y) h = ap bound_name (bound-alike ps x y h)
printed-alike ps (constant c ts) (constant d us) h = λ i. constant (h.0 i) (h.1 i)
printed-alike ps (application f a) (application g b) h = λ i. application (printed-alike ps f g h.0 i) (printed-alike ps a b h.1 i)
printed-alike ps (abstraction x t b) (abstraction y u c) h =
    λ i. abstraction (codes "x" ++ decimal (same_count ps i)) (h.0 i) (printed-alike ((x, y) ∷ ps) b c h.1 i)
printed-alike ps s t h = absurd h
