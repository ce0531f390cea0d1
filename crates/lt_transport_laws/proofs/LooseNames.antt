-- Bound names without a binder: opening takes one away, and a step brings none.
use Rattle.std.specs.Prelude.{◌≡◌, Bool, true, false, ◌||◌, ◌&&◌, not}
use Rattle.std.proofs.Common.{refl, sym, ap, ◌∙◌, inl, inr}
use Rattle.lt_definitions.specs.Types.{Chars, same_name, TypeTree}
use Rattle.lt_definitions.specs.Terms.{TermTree, free_variable, bound_name, constant, application, abstraction, has_loose, HasNoLooseNames}
use Rattle.lt_definitions.specs.Binding.{opened, Closes}
use Rattle.lt_definitions.proofs.SameNames.{bool_cases, name-true, name-false, false-name}
use Rattle.lt_nameless.proofs.BindingLemmas.{if-true, if-false}
use Rattle.lt_nameless.proofs.AlphaLaws.{alpha_keeps_loose_names}
use Rattle.lt_transport_definitions.specs.Reduction.{Steps, opens, in_head, in_argument, in_body}
use Rattle.lt_transport_laws.proofs.Exchanges.{neither, if-ap}

and-false : (a : Bool) → (a && false) ≡ false
and-false true = refl
and-false false = refl

not-and : (a : Bool) → (not a && a) ≡ false
not-and true = refl
not-and false = refl

and-either : (a b c : Bool) → (a && (b || c)) ≡ ((a && b) || (a && c))
and-either true b c = refl
and-either false b c = refl

and-twice : (a b : Bool) → (a && (a && b)) ≡ (a && b)
and-twice true b = refl
and-twice false b = refl

and-turned : (a b c : Bool) → (a && (b && c)) ≡ (b && (a && c))
and-turned true true c = refl
and-turned true false c = refl
and-turned false true c = refl
and-turned false false c = refl

-- a name that isn't one of two names that differ
differs : (x y z : Chars) → same_name x y ≡ false → same_name z y ≡ true → same_name z x ≡ false
differs x y z n e = false-name z x (λ p. name-false x y n (sym p ∙ name-true z y e))

-- the loose names of an opened body are those of the body, without the binder's
pub opened-loose : (z x : Chars) (by t : TermTree) → HasNoLooseNames by → has_loose z (opened x by t) ≡ (not (same_name z x) && has_loose z t)
opened-loose z x by (free_variable y u) h = sym (and-false (not (same_name z x)))
opened-loose z x by (bound_name y) h = if-ap (has_loose z) (same_name x y) by (bound_name y) ∙ elim (bool_cases (same_name x y)) [
  | inl s ↦ if-true (same_name x y) (has_loose z by) (same_name z y) s ∙ h z
      ∙ sym (ap (λ n. not (same_name z x) && same_name z n) (sym (name-true x y s)) ∙ not-and (same_name z x))
  | inr s ↦ if-false (same_name x y) (has_loose z by) (same_name z y) s ∙ elim (bool_cases (same_name z y)) [
    | inl e ↦ e ∙ sym (λ i. not (differs x y z s e i) && e i)
    | inr e ↦ e ∙ sym (ap (λ b. not (same_name z x) && b) e ∙ and-false (not (same_name z x)))
  ]
]
opened-loose z x by (constant c ts) h = sym (and-false (not (same_name z x)))
opened-loose z x by (application f a) h =
    (λ i. opened-loose z x by f h i || opened-loose z x by a h i) ∙ sym (and-either (not (same_name z x)) (has_loose z f) (has_loose z a))
opened-loose z x by (abstraction y u b) h = elim (bool_cases (same_name x y)) [
  | inl s ↦ ap (λ t. not (same_name z y) && has_loose z t) (if-true (same_name x y) b (opened x by b) s)
      ∙ sym (and-twice (not (same_name z y)) (has_loose z b))
      ∙ ap (λ n. not (same_name z n) && (not (same_name z y) && has_loose z b)) (sym (name-true x y s))
  | inr s ↦ ap (λ t. not (same_name z y) && has_loose z t) (if-false (same_name x y) b (opened x by b) s)
      ∙ ap (λ b. not (same_name z y) && b) (opened-loose z x by b h)
      ∙ and-turned (not (same_name z y)) (not (same_name z x)) (has_loose z b)
]

-- what an abstraction without loose names opens to has none
pub opened-none : (x : Chars) (ty : TypeTree) (by b : TermTree) → HasNoLooseNames by → HasNoLooseNames (abstraction x ty b) → HasNoLooseNames (opened x by b)
opened-none x ty by b h k z = opened-loose z x by b h ∙ k z

pub variable-none : (v : Chars) (ty : TypeTree) → HasNoLooseNames (free_variable v ty)
variable-none v ty z = refl

pub head-none : (f a : TermTree) → HasNoLooseNames (application f a) → HasNoLooseNames f
head-none f a h z = (neither (has_loose z f) (has_loose z a) (h z)).0

pub argument-none : (f a : TermTree) → HasNoLooseNames (application f a) → HasNoLooseNames a
argument-none f a h z = (neither (has_loose z f) (has_loose z a) (h z)).1

either-none : (a b : Bool) → a ≡ false → b ≡ false → (a || b) ≡ false
either-none true b h k = absurd (cc)
either-none false b h k = k

pub application-none : (f a : TermTree) → HasNoLooseNames f → HasNoLooseNames a → HasNoLooseNames (application f a)
application-none f a h k z = either-none (has_loose z f) (has_loose z a) (h z) (k z)

-- a closing of a term without loose names has none
closing-none : (v : Chars) (ty : TypeTree) (c closing : TermTree) → Closes v ty c closing → HasNoLooseNames c → HasNoLooseNames closing
closing-none v ty c closing k h z = ap (has_loose z) k.is
    ∙ sym (opened-loose z k.binder (free_variable v ty) k.body (variable-none v ty))
    ∙ alpha_keeps_loose_names (opened k.binder (free_variable v ty) k.body) c z k.back ∙ h z

-- a step brings no loose name
pub steps-none : (s u : TermTree) → Steps s u → HasNoLooseNames s → HasNoLooseNames u
steps-none s u (opens x xt b a) h = opened-none x xt a b (argument-none (abstraction x xt b) a h) (head-none (abstraction x xt b) a h)
steps-none s u (in_head f g a n k) h = application-none g a (steps-none f g k (head-none f a h)) (argument-none f a h)
steps-none s u (in_argument f a c n m k) h = application-none f c (head-none f a h) (steps-none a c k (argument-none f a h))
steps-none s u (in_body x v ty b c closing n k l) h =
    closing-none v ty c closing l (steps-none (opened x (free_variable v ty) b) c k (opened-none x ty (free_variable v ty) b (variable-none v ty) h))
