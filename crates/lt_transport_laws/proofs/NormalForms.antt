-- A term has one step, one normal form and one limit, up to alpha equality.
use Rattle.std.specs.Prelude.{◌≡◌, ◌⊎◌, ℕ, zero, suc, ◌<◌, [], false}
use Rattle.std.proofs.Common.{refl, subst, sym, ap, ◌∙◌, inl, inr, arith}
use Rattle.lt_definitions.specs.Types.{Chars, TypeTree}
use Rattle.lt_definitions.specs.Terms.{TermTree, free_variable, abstraction, has_free, HasNoLooseNames}
use Rattle.lt_definitions.specs.Alpha.{AreAlpha, IsAlphaEqual}
use Rattle.lt_definitions.specs.Binding.{opened, Closes}
use Rattle.lt_nameless.proofs.AlphaLaws.{alpha_is_reflexive, alpha_is_symmetric, alpha_is_transitive, alpha_keeps_free_variables, alpha_kept_by_opening, alpha_kept_by_closing}
use Rattle.lt_transport_definitions.specs.Reduction.{has_redex, is_abstraction, Steps, opens, in_head, in_argument, in_body, LeadsTo, PassesLimit, IsNormLimit, IsNormalForm}
use Rattle.lt_transport_laws.proofs.ReductionLemmas.{alpha-nodes, alpha-abstraction, alpha-redex, steps-redex}
use Rattle.lt_transport_laws.proofs.Exchanges.{swapped, swapped-steps, swapped-renames, renamed-closing}
use Rattle.lt_transport_laws.proofs.LooseNames.{opened-none, variable-none, head-none, argument-none, steps-none}

-- an abstraction is alpha-equal to no other term
abstraction-head : (x : Chars) (ty : TypeTree) (b f : TermTree) → AreAlpha [] (abstraction x ty b) f → is_abstraction f ≡ false → ⊥
abstraction-head x ty b f h n = let e = alpha-abstraction [] (abstraction x ty b) f h in cc

-- a term that takes a step is alpha-equal to none without a redex
redex-head : (f g h : TermTree) → Steps f g → AreAlpha [] f h → has_redex h ≡ false → ⊥
redex-head f g h k e n = let p = steps-redex f g k in let q = alpha-redex [] f h e in cc

-- alpha-equal terms take alpha-equal steps
pub steps-one : (s t u w : TermTree) → Steps s u → Steps t w → AreAlpha [] s t → HasNoLooseNames s → AreAlpha [] u w
steps-one s t u w (opens x xt b a) (opens y yt c d) h l =
    alpha_kept_by_opening x y xt yt b c a d h.0 h.1 (argument-none (abstraction x xt b) a l)
steps-one s t u w (opens x xt b a) (in_head f g d n k) h l = absurd (abstraction-head x xt b f h.0 n)
steps-one s t u w (opens x xt b a) (in_argument f d c n m k) h l = absurd (abstraction-head x xt b f h.0 n)
steps-one s t u w (opens x xt b a) (in_body y v ty c d closing n k m) h l = absurd h
steps-one s t u w (in_head f g a n k) (opens y yt c d) h l =
    absurd (abstraction-head y yt c f (alpha_is_symmetric f (abstraction y yt c) h.0) n)
steps-one s t u w (in_head f g a n k) (in_head f2 g2 a2 n2 k2) h l = (steps-one f f2 g g2 k k2 h.0 (head-none f a l), h.1)
steps-one s t u w (in_head f g a n k) (in_argument f2 a2 c2 n2 m2 k2) h l = absurd (redex-head f g f2 k h.0 m2)
steps-one s t u w (in_head f g a n k) (in_body y v ty c d closing n2 k2 m2) h l = absurd h
steps-one s t u w (in_argument f a c n m k) (opens y yt d e) h l =
    absurd (abstraction-head y yt d f (alpha_is_symmetric f (abstraction y yt d) h.0) n)
steps-one s t u w (in_argument f a c n m k) (in_head f2 g2 a2 n2 k2) h l = absurd (redex-head f2 g2 f k2 (alpha_is_symmetric f f2 h.0) m)
steps-one s t u w (in_argument f a c n m k) (in_argument f2 a2 c2 n2 m2 k2) h l = (h.0, steps-one a a2 c c2 k k2 h.1 (argument-none f a l))
steps-one s t u w (in_argument f a c n m k) (in_body y v ty d e closing n2 k2 m2) h l = absurd h
steps-one s t u w (in_body x v ty b c closing n k m) (opens y yt d e) h l = absurd h
steps-one s t u w (in_body x v ty b c closing n k m) (in_head f2 g2 a2 n2 k2) h l = absurd h
steps-one s t u w (in_body x v ty b c closing n k m) (in_argument f2 a2 c2 n2 m2 k2) h l = absurd h
steps-one s t u w (in_body x v ty b c closing n k m) (in_body y v2 ty2 b2 c2 closing2 n2 k2 m2) h l =
    let k0 : Steps (opened x (free_variable v ty2) b) c = subst (λ (r : TypeTree). Steps (opened x (free_variable v r) b) c) h.0 k in
    let m0 : Closes v ty2 c closing = subst (λ (r : TypeTree). Closes v r c closing) h.0 m in
    let n0 : has_free v ty2 b ≡ false = subst (λ (r : TypeTree). has_free v r b ≡ false) h.0 n in
    let fresh : has_free v2 ty2 b ≡ false = alpha_keeps_free_variables (abstraction x ty b) (abstraction y ty2 b2) v2 ty2 h ∙ n2 in
    let k1 : Steps (opened x (free_variable v2 ty2) b) (swapped ty2 v v2 c) =
    subst (λ r. Steps r (swapped ty2 v v2 c)) (swapped-renames ty2 v v2 x b n0 fresh)
    (swapped-steps ty2 v v2 (opened x (free_variable v ty2) b) c k0) in
    let both : AreAlpha [] (swapped ty2 v v2 c) c2 =
    steps-one (opened x (free_variable v2 ty2) b) (opened y (free_variable v2 ty2) b2) (swapped ty2 v v2 c) c2 k1 k2
    (alpha_kept_by_opening x y ty ty2 b b2 (free_variable v2 ty2) (free_variable v2 ty2) h (alpha_is_reflexive (free_variable v2 ty2)) (variable-none v2 ty2))
    (opened-none x ty (free_variable v2 ty2) b (variable-none v2 ty2) l) in
    alpha_kept_by_closing v2 ty2 (swapped ty2 v v2 c) c2 closing closing2 both (renamed-closing ty2 v v2 x b c closing n0 fresh k0 m0) m2

-- as many steps from alpha-equal terms lead to alpha-equal terms
leads-same : (k : ℕ) (s t u w : TermTree) → LeadsTo k s u → LeadsTo k t w → AreAlpha [] s t → HasNoLooseNames s → AreAlpha [] u w
leads-same zero s t u w h k e l = alpha_is_transitive u s w (alpha_is_symmetric s u h) (alpha_is_transitive s t w e k)
leads-same (suc n) s t u w h k e l = leads-same n h.0 k.0 u w h.2 k.2 (steps-one s t h.0 k.0 h.1 k.1 e l) (steps-none s h.0 h.1 l)

-- no step leads on from a term without a redex
leads-no_further : (j k : ℕ) (s t u w : TermTree) → LeadsTo j s u → LeadsTo k t w → AreAlpha [] s t → HasNoLooseNames s → has_redex u ≡ false → j < k → ⊥
leads-no_further j zero s t u w h k e l n m = omega arith
leads-no_further zero (suc k) s t u w h g e l n m =
    redex-head t g.0 u g.1 (alpha_is_transitive t s u (alpha_is_symmetric s t e) h) n
leads-no_further (suc j) (suc k) s t u w h g e l n m =
    leads-no_further j k h.0 g.0 u w h.2 g.2 (steps-one s t h.0 g.0 h.1 g.1 e l) (steps-none s h.0 h.1 l) n (omega arith)

-- which of two numbers is less, if one is
which : (j k : ℕ) → (j < k) ⊎ ((j ≡ k) ⊎ (k < j))
which zero zero = inr (inl refl)
which zero (suc k) = inl (omega arith)
which (suc j) zero = inr (inr (omega arith))
which (suc j) (suc k) = elim (which j k) [
  | inl l ↦ inl (omega arith)
  | inr r ↦ elim r [
    | inl e ↦ inr (inl (ap suc e))
    | inr l ↦ inr (inr (omega arith))
  ]
]

pub limits-one : (t : TermTree) (j k : ℕ) → IsNormLimit t j → IsNormLimit t k → j ≡ k
limits-one t j k h g = elim (which j k) [
  | inl l ↦ absurd (g.3 j h.0 l h.1 h.2)
  | inr r ↦ elim r [
    | inl e ↦ e
    | inr l ↦ absurd (h.3 k g.0 l g.1 g.2)
  ]
]

pub normal-one : (t u w : TermTree) → HasNoLooseNames t → IsNormalForm t u → IsNormalForm t w → IsAlphaEqual u w
normal-one t u w l h g = elim (which h.0 g.0) [
  | inl m ↦ absurd (leads-no_further h.0 g.0 t t u w h.1 g.1 (alpha_is_reflexive t) l h.2 m)
  | inr r ↦ elim r [
    | inl e ↦ leads-same g.0 t t u w (subst (λ n. LeadsTo n t u) e h.1) g.1 (alpha_is_reflexive t) l
    | inr m ↦ absurd (leads-no_further g.0 h.0 t t w u g.1 h.1 (alpha_is_reflexive t) l g.2 m)
  ]
]

-- alpha-equal terms pass the same limits
passes-alpha : (k : ℕ) (u w : TermTree) → AreAlpha [] u w → PassesLimit k u → PassesLimit k w
passes-alpha k u w e h = elim h [
  | inl m ↦ inl (let n = alpha-nodes [] u w e in omega arith)
  | inr m ↦ inr (m.0, sym (alpha-redex [] u w e) ∙ m.1)
]

pub normal-or-limit : (t u : TermTree) (k : ℕ) → HasNoLooseNames t → IsNormalForm t u → IsNormLimit t k → ⊥
normal-or-limit t u k l h g = elim (which h.0 k) [
  | inl m ↦ leads-no_further h.0 k t t u g.0 h.1 g.1 (alpha_is_reflexive t) l h.2 m
  | inr r ↦ elim r [
    | inl e ↦ h.3 (subst (λ n. PassesLimit n u) (sym e) (passes-alpha k g.0 u
        (leads-same k t t g.0 u g.1 (subst (λ n. LeadsTo n t u) e h.1) (alpha_is_reflexive t) l) g.2))
    | inr m ↦ h.4 k g.0 m g.1 g.2
  ]
]
