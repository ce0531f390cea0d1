-- Lifted terms, terms put for an index, and closing over a free variable.
use Rattle.std.proofs.Common.{◌≡◌, inl, inr, ℕ, suc, ◌<◌, ◌≤◌, true, false, ◌&&◌, if◌then◌else◌, nat_eq, nat_lt, refl, sym, ◌∙◌, ap, arith}
use Rattle.std.proofs.lemmas.Bool.{cases_Bool, cond-true, cond-false}
use Rattle.std.proofs.lemmas.Bool.Decides.{nat_tests}
use Rattle.lt_definitions.specs.Types.{Chars, same_name, TypeTree, same_type}
use Rattle.lt_nameless.specs.Nameless.{Nameless, nameless_free, nameless_bound, nameless_loose, nameless_constant, nameless_application, nameless_abstraction, IsWhole}
use Rattle.lt_nameless.specs.NamelessRules.{instance_at, abstracted}
use Rattle.lt_reductions.specs.Reducts.{lifted, before, put}

pub less-is : (i d : ℕ) → i < d → nat_lt i d ≡ true
less-is i d h = grind (arith, nat_tests)

pub less-not : (i d : ℕ) → d ≤ i → nat_lt i d ≡ false
less-not i d h = grind (arith, nat_tests)

pub eq-not : (i d : ℕ) → d < i → nat_eq i d ≡ false
eq-not i d h = grind (arith, nat_tests)

pub is-less : (i d : ℕ) → nat_lt i d ≡ true → i < d
is-less i d e = grind (arith, nat_tests)

pub not-less : (i d : ℕ) → nat_lt i d ≡ false → d ≤ i
not-less i d e = grind (arith, nat_tests)

pub is-eq : (i d : ℕ) → nat_eq i d ≡ true → i ≡ d
is-eq i d e = grind (arith, nat_tests)

pub less-eq : (i d : ℕ) → nat_lt i d ≡ true → nat_eq i d ≡ false
less-eq i d e = grind (arith, nat_tests)

not-eq : (i d : ℕ) → nat_lt i d ≡ false → i < suc d → nat_eq i d ≡ true
not-eq i d e h = grind (arith, nat_tests)

-- a term that has no index that belongs to none of d binders stays
pub lifted-whole : (d : ℕ) (t : Nameless) → IsWhole d t → lifted d t ≡ t
lifted-whole d (nameless_free x ty) w = refl
lifted-whole d (nameless_bound i) w = cond-true (nat_lt i d) _ _ (less-is i d w)
lifted-whole d (nameless_loose x) w = refl
lifted-whole d (nameless_constant c ts) w = refl
lifted-whole d (nameless_application f a) w = λ i. nameless_application (lifted-whole d f w.0 i) (lifted-whole d a w.1 i)
lifted-whole d (nameless_abstraction ty b) w = ap (nameless_abstraction ty) (lifted-whole (suc d) b w)

-- for a term without loose indices, and behind the outermost binder, it is what opening makes
pub put-instance : (d : ℕ) (by t : Nameless) → IsWhole 0 by → IsWhole (suc d) t → put d by t ≡ instance_at d by t
put-instance d by (nameless_free x ty) h w = refl
put-instance d by (nameless_bound i) h w = elim (cases_Bool (nat_lt i d)) [
  | inl e ↦ cond-true (nat_lt i d) _ _ e ∙ sym (cond-false (nat_eq i d) _ _ (less-eq i d e))
  | inr e ↦ cond-false (nat_lt i d) _ _ e ∙ cond-true (nat_eq i d) _ _ (not-eq i d e w) ∙ sym (cond-true (nat_eq i d) _ _ (not-eq i d e w))
]
put-instance d by (nameless_loose x) h w = refl
put-instance d by (nameless_constant c ts) h w = refl
put-instance d by (nameless_application f a) h w = λ i. nameless_application (put-instance d by f h w.0 i) (put-instance d by a h w.1 i)
put-instance d by (nameless_abstraction ty b) h w =
    ap (λ v. nameless_abstraction ty (put (suc d) v b)) (lifted-whole 0 by h) ∙ ap (nameless_abstraction ty) (put-instance (suc d) by b h w)

-- lifting and closing
pub lifted-closed : (e d : ℕ) (x : Chars) (ty : TypeTree) (t : Nameless) → e ≤ d → lifted e (abstracted d x ty t) ≡ abstracted (suc d) x ty (lifted e t)
lifted-closed e d x ty (nameless_free y u) h = elim (cases_Bool (same_name x y && same_type ty u)) [
  | inl q ↦ ap (lifted e) (cond-true (same_name x y && same_type ty u) (nameless_bound d) (nameless_free y u) q)
      ∙ cond-false (nat_lt d e) _ _ (less-not d e h) ∙ sym (cond-true (same_name x y && same_type ty u) (nameless_bound (suc d)) (nameless_free y u) q)
  | inr q ↦ ap (lifted e) (cond-false (same_name x y && same_type ty u) (nameless_bound d) (nameless_free y u) q)
      ∙ sym (cond-false (same_name x y && same_type ty u) (nameless_bound (suc d)) (nameless_free y u) q)
]
lifted-closed e d x ty (nameless_bound i) h = elim (cases_Bool (nat_lt i e)) [
  | inl q ↦ cond-true (nat_lt i e) _ _ q ∙ sym (ap (abstracted (suc d) x ty) (cond-true (nat_lt i e) (nameless_bound i) (nameless_bound (suc i)) q))
  | inr q ↦ cond-false (nat_lt i e) _ _ q ∙ sym (ap (abstracted (suc d) x ty) (cond-false (nat_lt i e) (nameless_bound i) (nameless_bound (suc i)) q))
]
lifted-closed e d x ty (nameless_loose y) h = refl
lifted-closed e d x ty (nameless_constant c ts) h = refl
lifted-closed e d x ty (nameless_application f a) h = λ i. nameless_application (lifted-closed e d x ty f h i) (lifted-closed e d x ty a h i)
lifted-closed e d x ty (nameless_abstraction u b) h = ap (nameless_abstraction u) (lifted-closed (suc e) (suc d) x ty b (omega (arith, h)))

-- putting and closing
pub put-closed : (e d : ℕ) (x : Chars) (ty : TypeTree) (by t : Nameless) → e ≤ d → put e (abstracted d x ty by) (abstracted (suc d) x ty t) ≡ abstracted d x ty (put e by t)
put-closed e d x ty by (nameless_free y u) h = elim (cases_Bool (same_name x y && same_type ty u)) [
  | inl q ↦ ap (put e (abstracted d x ty by)) (cond-true (same_name x y && same_type ty u) (nameless_bound (suc d)) (nameless_free y u) q)
      ∙ cond-false (nat_lt (suc d) e) _ _ (less-not (suc d) e (omega (arith, h))) ∙ cond-false (nat_eq (suc d) e) _ _ (eq-not (suc d) e (omega (arith, h)))
      ∙ sym (cond-true (same_name x y && same_type ty u) (nameless_bound d) (nameless_free y u) q)
  | inr q ↦ ap (put e (abstracted d x ty by)) (cond-false (same_name x y && same_type ty u) (nameless_bound (suc d)) (nameless_free y u) q)
      ∙ sym (cond-false (same_name x y && same_type ty u) (nameless_bound d) (nameless_free y u) q)
]
put-closed e d x ty by (nameless_bound i) h = elim (cases_Bool (nat_lt i e)) [
  | inl q ↦ cond-true (nat_lt i e) _ _ q ∙ sym (ap (abstracted d x ty) (cond-true (nat_lt i e) (nameless_bound i) (if nat_eq i e then by else nameless_bound (before i)) q))
  | inr q ↦ cond-false (nat_lt i e) _ _ q ∙ at-or-above ∙ sym (ap (abstracted d x ty) (cond-false (nat_lt i e) (nameless_bound i) (if nat_eq i e then by else nameless_bound (before i)) q))
]
  where
    at-or-above : (if nat_eq i e then abstracted d x ty by else nameless_bound (before i)) ≡ abstracted d x ty (if nat_eq i e then by else nameless_bound (before i))
    at-or-above = elim (cases_Bool (nat_eq i e)) [
      | inl p ↦ cond-true (nat_eq i e) _ _ p ∙ sym (ap (abstracted d x ty) (cond-true (nat_eq i e) by (nameless_bound (before i)) p))
      | inr p ↦ cond-false (nat_eq i e) _ _ p ∙ sym (ap (abstracted d x ty) (cond-false (nat_eq i e) by (nameless_bound (before i)) p))
    ]
put-closed e d x ty by (nameless_loose y) h = refl
put-closed e d x ty by (nameless_constant c ts) h = refl
put-closed e d x ty by (nameless_application f a) h = λ i. nameless_application (put-closed e d x ty by f h i) (put-closed e d x ty by a h i)
put-closed e d x ty by (nameless_abstraction u b) h =
    ap (λ v. nameless_abstraction u (put (suc e) v (abstracted (suc (suc d)) x ty b))) (lifted-closed 0 d x ty by (omega arith))
    ∙ ap (nameless_abstraction u) (put-closed (suc e) (suc d) x ty (lifted 0 by) b (omega (arith, h)))
