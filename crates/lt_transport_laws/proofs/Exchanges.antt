-- Steps with two free variables exchanged: which new variable a body is opened by doesn't matter.
use Rattle.std.specs.Prelude.{◌≡◌, List, ◌∷◌, [], Bool, true, false, ◌||◌, ◌&&◌, if◌then◌else◌}
use Rattle.std.proofs.Common.{refl, subst, sym, ap, ◌∙◌, inl, inr}
use Rattle.lt_definitions.specs.Types.{Chars, same_name, TypeTree, same_type}
use Rattle.lt_definitions.specs.Terms.{TermTree, free_variable, bound_name, constant, application, abstraction, has_free}
use Rattle.lt_definitions.specs.Alpha.{AreAlpha, IsAlphaEqual}
use Rattle.lt_definitions.specs.Binding.{opened, Closes}
use Rattle.lt_definitions.proofs.SameNames.{bool_cases, name-true, true-name, name-false, false-name, type-true, type-refl, both-true}
use Rattle.lt_nameless.proofs.BindingLemmas.{if-true, if-false}
use Rattle.lt_nameless.proofs.AlphaLaws.{alpha_keeps_free_variables}
use Rattle.lt_transport_definitions.specs.Reduction.{has_redex, is_abstraction, Steps, opens, in_head, in_argument, in_body}
use Rattle.lt_transport_laws.proofs.ReductionLemmas.{redex-abstraction, redex-other}

-- a name of a free variable with two variables of a type exchanged
abbrev pub swapped_name : TypeTree → Chars → Chars → Chars → TypeTree → Chars
swapped_name ty v w z u = if same_type ty u then (if same_name z v then w else (if same_name z w then v else z)) else z

-- a term with two free variables of a type exchanged
abbrev pub swapped : TypeTree → Chars → Chars → TermTree → TermTree
swapped ty v w (free_variable z u) = free_variable (swapped_name ty v w z u) u
swapped ty v w (bound_name x) = bound_name x
swapped ty v w (constant c ts) = constant c ts
swapped ty v w (application f a) = application (swapped ty v w f) (swapped ty v w a)
swapped ty v w (abstraction x u b) = abstraction x u (swapped ty v w b)

-- a test on a stuck choice
pub if-ap : {A B : Type 0} (f : A → B) (b : Bool) (x y : A) → f (if b then x else y) ≡ (if b then f x else f y)
if-ap f true x y = refl
if-ap f false x y = refl

pub swapped-opened : (ty : TypeTree) (v w x : Chars) (by t : TermTree) → swapped ty v w (opened x by t) ≡ opened x (swapped ty v w by) (swapped ty v w t)
swapped-opened ty v w x by (free_variable z u) = refl
swapped-opened ty v w x by (bound_name y) = if-ap (swapped ty v w) (same_name x y) by (bound_name y)
swapped-opened ty v w x by (constant c ts) = refl
swapped-opened ty v w x by (application f a) = λ i. application (swapped-opened ty v w x by f i) (swapped-opened ty v w x by a i)
swapped-opened ty v w x by (abstraction y u b) =
    ap (abstraction y u) (if-ap (swapped ty v w) (same_name x y) b (opened x by b)
    ∙ ap (λ t. if same_name x y then swapped ty v w b else t) (swapped-opened ty v w x by b))

swapped-abstraction : (ty : TypeTree) (v w : Chars) (t : TermTree) → is_abstraction (swapped ty v w t) ≡ is_abstraction t
swapped-abstraction ty v w (free_variable z u) = refl
swapped-abstraction ty v w (bound_name x) = refl
swapped-abstraction ty v w (constant c ts) = refl
swapped-abstraction ty v w (application f a) = refl
swapped-abstraction ty v w (abstraction x u b) = refl

swapped-redex : (ty : TypeTree) (v w : Chars) (t : TermTree) → has_redex (swapped ty v w t) ≡ has_redex t
swapped-redex ty v w (free_variable z u) = refl
swapped-redex ty v w (bound_name x) = refl
swapped-redex ty v w (constant c ts) = refl
swapped-redex ty v w (application f a) = elim (bool_cases (is_abstraction f)) [
  | inl y ↦ redex-abstraction (swapped ty v w f) (swapped ty v w a) (swapped-abstraction ty v w f ∙ y) ∙ sym (redex-abstraction f a y)
  | inr n ↦ redex-other (swapped ty v w f) (swapped ty v w a) (swapped-abstraction ty v w f ∙ n)
      ∙ (λ i. swapped-redex ty v w f i || swapped-redex ty v w a i) ∙ sym (redex-other f a n)
]
swapped-redex ty v w (abstraction x u b) = swapped-redex ty v w b

pub swapped-alpha : (ty : TypeTree) (v w : Chars) (ps : List (Chars × Chars)) (s t : TermTree) → AreAlpha ps s t → AreAlpha ps (swapped ty v w s) (swapped ty v w t)
swapped-alpha ty v w ps (free_variable x t) (free_variable y u) h = (λ i. swapped_name ty v w (h.0 i) (h.1 i), h.1)
swapped-alpha ty v w ps (bound_name x) (bound_name y) h = h
swapped-alpha ty v w ps (constant c ts) (constant d us) h = h
swapped-alpha ty v w ps (application f a) (application g b) h = (swapped-alpha ty v w ps f g h.0, swapped-alpha ty v w ps a b h.1)
swapped-alpha ty v w ps (abstraction x t b) (abstraction y u c) h = (h.0, swapped-alpha ty v w ((x, y) ∷ ps) b c h.1)
swapped-alpha ty v w ps s t h = absurd h

-- a name with two names exchanged
abbrev exchanged : Chars → Chars → Chars → Chars
exchanged v w z = if same_name z v then w else (if same_name z w then v else z)

exchanged-first : (v w z : Chars) → same_name z v ≡ true → exchanged v w z ≡ w
exchanged-first v w z h = if-true (same_name z v) w (if same_name z w then v else z) h

exchanged-second : (v w z : Chars) → same_name z v ≡ false → same_name z w ≡ true → exchanged v w z ≡ v
exchanged-second v w z n h = if-false (same_name z v) w (if same_name z w then v else z) n ∙ if-true (same_name z w) v z h

exchanged-other : (v w z : Chars) → same_name z v ≡ false → same_name z w ≡ false → exchanged v w z ≡ z
exchanged-other v w z n m = if-false (same_name z v) w (if same_name z w then v else z) n ∙ if-false (same_name z w) v z m

exchanged-twice : (v w z : Chars) → exchanged v w (exchanged v w z) ≡ z
exchanged-twice v w z = elim (bool_cases (same_name z v)) [
  | inl s ↦ ap (exchanged v w) (exchanged-first v w z s) ∙ elim (bool_cases (same_name w v)) [
    | inl t ↦ exchanged-first v w w t ∙ name-true w v t ∙ sym (name-true z v s)
    | inr t ↦ exchanged-second v w w t (true-name w w refl) ∙ sym (name-true z v s)
  ]
  | inr n ↦ elim (bool_cases (same_name z w)) [
    | inl s ↦ ap (exchanged v w) (exchanged-second v w z n s) ∙ exchanged-first v w v (true-name v v refl) ∙ sym (name-true z w s)
    | inr m ↦ ap (exchanged v w) (exchanged-other v w z n m) ∙ exchanged-other v w z n m
  ]
]

exchanged-same : (v w x y : Chars) → same_name (exchanged v w x) (exchanged v w y) ≡ same_name x y
exchanged-same v w x y = elim (bool_cases (same_name x y)) [
  | inl s ↦ true-name (exchanged v w x) (exchanged v w y) (ap (exchanged v w) (name-true x y s)) ∙ sym s
  | inr n ↦ false-name (exchanged v w x) (exchanged v w y)
      (λ e. name-false x y n (sym (exchanged-twice v w x) ∙ ap (exchanged v w) e ∙ exchanged-twice v w y)) ∙ sym n
]

-- exchanged names are one where the names are
swapped-same : (ty : TypeTree) (v w x y : Chars) (t : TypeTree) → same_name (swapped_name ty v w x t) (swapped_name ty v w y t) ≡ same_name x y
swapped-same ty v w x y t = elim (bool_cases (same_type ty t)) [
  | inr n ↦ (λ i. same_name (if-false (same_type ty t) (exchanged v w x) x n i) (if-false (same_type ty t) (exchanged v w y) y n i))
  | inl e ↦ (λ i. same_name (if-true (same_type ty t) (exchanged v w x) x e i) (if-true (same_type ty t) (exchanged v w y) y e i))
      ∙ exchanged-same v w x y
]

and-false : (b : Bool) → (b && false) ≡ false
and-false true = refl
and-false false = refl

swapped-free : (ty : TypeTree) (v w z : Chars) (zt : TypeTree) (t : TermTree) → has_free (swapped_name ty v w z zt) zt (swapped ty v w t) ≡ has_free z zt t
swapped-free ty v w z zt (free_variable y u) = elim (bool_cases (same_type zt u)) [
  | inl e ↦ ap (λ b. b && same_type zt u) (ap (λ n. same_name n (swapped_name ty v w y u)) (ap (swapped_name ty v w z) (type-true zt u e))
      ∙ swapped-same ty v w z y u)
  | inr n ↦ ap (λ b. same_name (swapped_name ty v w z zt) (swapped_name ty v w y u) && b) n
      ∙ and-false (same_name (swapped_name ty v w z zt) (swapped_name ty v w y u))
      ∙ sym (and-false (same_name z y)) ∙ ap (λ b. same_name z y && b) (sym n)
]
swapped-free ty v w z zt (bound_name x) = refl
swapped-free ty v w z zt (constant c ts) = refl
swapped-free ty v w z zt (application f a) = λ i. swapped-free ty v w z zt f i || swapped-free ty v w z zt a i
swapped-free ty v w z zt (abstraction x u b) = swapped-free ty v w z zt b

-- neither of two
pub neither : (a b : Bool) → (a || b) ≡ false → (a ≡ false) × (b ≡ false)
neither false b h = (refl, h)
neither true b h = absurd (cc)

turned : (x y : Chars) → same_name x y ≡ false → same_name y x ≡ false
turned x y n = false-name y x (λ e. name-false x y n (sym e))

one-false : (a b : Bool) → (a && b) ≡ false → b ≡ true → a ≡ false
one-false true b h e = absurd (cc)
one-false false b h e = refl

-- where neither variable occurs, nothing changes
pub swapped-none : (ty : TypeTree) (v w : Chars) (t : TermTree) → has_free v ty t ≡ false → has_free w ty t ≡ false → swapped ty v w t ≡ t
swapped-none ty v w (free_variable z u) h k = ap (λ n. free_variable n u) (elim (bool_cases (same_type ty u)) [
  | inr n ↦ if-false (same_type ty u) (exchanged v w z) z n
  | inl e ↦ if-true (same_type ty u) (exchanged v w z) z e
      ∙ exchanged-other v w z (turned v z (one-false (same_name v z) (same_type ty u) h e)) (turned w z (one-false (same_name w z) (same_type ty u) k e))
])
swapped-none ty v w (bound_name x) h k = refl
swapped-none ty v w (constant c ts) h k = refl
swapped-none ty v w (application f a) h k =
    let p = neither (has_free v ty f) (has_free v ty a) h in
    let q = neither (has_free w ty f) (has_free w ty a) k in
    λ i. application (swapped-none ty v w f p.0 q.0 i) (swapped-none ty v w a p.1 q.1 i)
swapped-none ty v w (abstraction x u b) h k = ap (abstraction x u) (swapped-none ty v w b h k)

pub swapped-closes : (ty : TypeTree) (v w z : Chars) (zt : TypeTree) (t c : TermTree) → Closes z zt t c
    → Closes (swapped_name ty v w z zt) zt (swapped ty v w t) (swapped ty v w c)
swapped-closes ty v w z zt t c k = record {
  binder = k.binder;
  body = swapped ty v w k.body;
  is = ap (swapped ty v w) k.is;
  gone = swapped-free ty v w z zt k.body ∙ k.gone;
  back = subst (λ s. IsAlphaEqual s (swapped ty v w t)) (swapped-opened ty v w k.binder (free_variable z zt) k.body)
      (swapped-alpha ty v w [] (opened k.binder (free_variable z zt) k.body) t k.back);
}

pub swapped-steps : (ty : TypeTree) (v w : Chars) (s u : TermTree) → Steps s u → Steps (swapped ty v w s) (swapped ty v w u)
swapped-steps ty v w s u (opens x xt b a) =
    subst (Steps (application (abstraction x xt (swapped ty v w b)) (swapped ty v w a))) (sym (swapped-opened ty v w x a b))
    (opens x xt (swapped ty v w b) (swapped ty v w a))
swapped-steps ty v w s u (in_head f g a n k) =
    in_head (swapped ty v w f) (swapped ty v w g) (swapped ty v w a) (swapped-abstraction ty v w f ∙ n) (swapped-steps ty v w f g k)
swapped-steps ty v w s u (in_argument f a c n m k) =
    in_argument (swapped ty v w f) (swapped ty v w a) (swapped ty v w c) (swapped-abstraction ty v w f ∙ n) (swapped-redex ty v w f ∙ m)
    (swapped-steps ty v w a c k)
swapped-steps ty v w s u (in_body x z zt b c closing n k l) =
    in_body x (swapped_name ty v w z zt) zt (swapped ty v w b) (swapped ty v w c) (swapped ty v w closing) (swapped-free ty v w z zt b ∙ n)
    (subst (λ r. Steps r (swapped ty v w c)) (swapped-opened ty v w x (free_variable z zt) b)
    (swapped-steps ty v w (opened x (free_variable z zt) b) c k))
    (swapped-closes ty v w z zt c closing l)

false-either : (a b : Bool) → a ≡ false → b ≡ false → (a || b) ≡ false
false-either true b h k = absurd (cc)
false-either false b h k = k

opened-free : (z : Chars) (zt : TypeTree) (x : Chars) (by t : TermTree) → has_free z zt by ≡ false → has_free z zt t ≡ false → has_free z zt (opened x by t) ≡ false
opened-free z zt x by (free_variable y u) h k = k
opened-free z zt x by (bound_name y) h k = elim (bool_cases (same_name x y)) [
  | inl s ↦ ap (has_free z zt) (if-true (same_name x y) by (bound_name y) s) ∙ h
  | inr s ↦ ap (has_free z zt) (if-false (same_name x y) by (bound_name y) s)
]
opened-free z zt x by (constant c ts) h k = refl
opened-free z zt x by (application f a) h k = let p = neither (has_free z zt f) (has_free z zt a) k in
    false-either (has_free z zt (opened x by f)) (has_free z zt (opened x by a)) (opened-free z zt x by f h p.0) (opened-free z zt x by a h p.1)
opened-free z zt x by (abstraction y u b) h k = elim (bool_cases (same_name x y)) [
  | inl s ↦ ap (has_free z zt) (if-true (same_name x y) b (opened x by b) s) ∙ k
  | inr s ↦ ap (has_free z zt) (if-false (same_name x y) b (opened x by b) s) ∙ opened-free z zt x by b h k
]

free-opened : (z : Chars) (zt : TypeTree) (x : Chars) (by t : TermTree) → has_free z zt (opened x by t) ≡ false → has_free z zt t ≡ false
free-opened z zt x by (free_variable y u) h = h
free-opened z zt x by (bound_name y) h = refl
free-opened z zt x by (constant c ts) h = refl
free-opened z zt x by (application f a) h = let p = neither (has_free z zt (opened x by f)) (has_free z zt (opened x by a)) h in
    false-either (has_free z zt f) (has_free z zt a) (free-opened z zt x by f p.0) (free-opened z zt x by a p.1)
free-opened z zt x by (abstraction y u b) h = elim (bool_cases (same_name x y)) [
  | inl s ↦ sym (ap (has_free z zt) (if-true (same_name x y) b (opened x by b) s)) ∙ h
  | inr s ↦ free-opened z zt x by b (sym (ap (has_free z zt) (if-false (same_name x y) b (opened x by b) s)) ∙ h)
]

-- a closing has no variable but those of the term, without the one that is closed over
closing-free : (z : Chars) (zt : TypeTree) (v : Chars) (ty : TypeTree) (c closing : TermTree) → Closes v ty c closing
    → (has_free z zt (free_variable v ty) ≡ false → has_free z zt c ≡ false) → has_free z zt closing ≡ false
closing-free z zt v ty c closing k h = ap (has_free z zt) k.is ∙ elim (bool_cases (has_free z zt (free_variable v ty))) [
  | inl e ↦ let p = both-true (same_name z v) (same_type zt ty) e in
      (λ i. has_free (name-true z v p.0 i) (type-true zt ty p.1 i) k.body) ∙ k.gone
  | inr n ↦ free-opened z zt k.binder (free_variable v ty) k.body
      (alpha_keeps_free_variables (opened k.binder (free_variable v ty) k.body) c z zt k.back ∙ h n)
]

-- a step brings no new variable
pub steps-free : (z : Chars) (zt : TypeTree) (s u : TermTree) → Steps s u → has_free z zt s ≡ false → has_free z zt u ≡ false
steps-free z zt s u (opens x xt b a) h = let p = neither (has_free z zt b) (has_free z zt a) h in opened-free z zt x a b p.1 p.0
steps-free z zt s u (in_head f g a n k) h = let p = neither (has_free z zt f) (has_free z zt a) h in
    false-either (has_free z zt g) (has_free z zt a) (steps-free z zt f g k p.0) p.1
steps-free z zt s u (in_argument f a c n m k) h = let p = neither (has_free z zt f) (has_free z zt a) h in
    false-either (has_free z zt f) (has_free z zt c) p.0 (steps-free z zt a c k p.1)
steps-free z zt s u (in_body x v ty b c closing n k l) h = closing-free z zt v ty c closing l
    (λ e. steps-free z zt (opened x (free_variable v ty) b) c k (opened-free z zt x (free_variable v ty) b e h))

swapped-self : (ty : TypeTree) (v w : Chars) → swapped_name ty v w v ty ≡ w
swapped-self ty v w = if-true (same_type ty ty) (exchanged v w v) v (type-refl ty) ∙ exchanged-first v w v (true-name v v refl)

-- a body opened by one new variable becomes the body opened by another
pub swapped-renames : (ty : TypeTree) (v w x : Chars) (b : TermTree) → has_free v ty b ≡ false → has_free w ty b ≡ false
    → swapped ty v w (opened x (free_variable v ty) b) ≡ opened x (free_variable w ty) b
swapped-renames ty v w x b n m = swapped-opened ty v w x (free_variable v ty) b
    ∙ (λ i. opened x (free_variable (swapped-self ty v w i) ty) (swapped-none ty v w b n m i))

-- and the closing of what it steps to over the one is a closing over the other
pub renamed-closing : (ty : TypeTree) (v w x : Chars) (b c closing : TermTree) → has_free v ty b ≡ false → has_free w ty b ≡ false
    → Steps (opened x (free_variable v ty) b) c → Closes v ty c closing → Closes w ty (swapped ty v w c) closing
renamed-closing ty v w x b c closing n m k l =
    let gone : has_free v ty closing ≡ false = ap (has_free v ty) l.is ∙ l.gone in
    let new : has_free w ty closing ≡ false = steps-free w ty (abstraction x ty b) closing (in_body x v ty b c closing n k l) m in
    subst (λ z. Closes z ty (swapped ty v w c) closing) (swapped-self ty v w)
    (subst (λ r. Closes (swapped_name ty v w v ty) ty (swapped ty v w c) r) (swapped-none ty v w closing gone new)
    (swapped-closes ty v w v ty c closing l))
