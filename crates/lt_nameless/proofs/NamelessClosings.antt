-- Nameless terms closed over a free variable.
use Rattle.std.proofs.Common.{◌≡◌, inl, inr, ℕ, zero, suc, ◌<◌, List, [], ◌∷◌, ◌++◌, length, false, ◌&&◌, nat_eq, slice_get, Ok, Some, None, refl, sym, ◌∙◌, ap, arith}
use Rattle.std.proofs.lemmas.Bool.{cases_Bool, or_parts, or_from, cond-true, cond-false}
use Rattle.lt_definitions.specs.Types.{Chars, same_name, TypeTree, fun, same_type}
use Rattle.lt_definitions.specs.Typing.{Signature, with_ok, unless, bound_type, applied_type, type_fault}
use Rattle.lt_nameless.specs.Nameless.{Nameless, nameless_free, nameless_bound, nameless_loose, nameless_constant, nameless_application, nameless_abstraction, IsWhole}
use Rattle.lt_nameless.specs.NamelessRules.{nameless_typed, nameless_has_free, instance_at, abstracted}
use Rattle.lt_nameless.proofs.SameForms.{number-same, number-less, variable-is}

-- opened again by the variable
pub closed-opened : (d : ℕ) (x : Chars) (ty : TypeTree) (t : Nameless) → IsWhole d t
    → instance_at d (nameless_free x ty) (abstracted d x ty t) ≡ t
closed-opened d x ty (nameless_free y u) w = elim (cases_Bool (same_name x y && same_type ty u)) [
  | inl e ↦ ap (instance_at d (nameless_free x ty))
      (cond-true (same_name x y && same_type ty u) (nameless_bound d) (nameless_free y u) e)
      ∙ cond-true (nat_eq d d) _ _ (number-same d) ∙ variable-is x y ty u e
  | inr e ↦ ap (instance_at d (nameless_free x ty))
      (cond-false (same_name x y && same_type ty u) (nameless_bound d) (nameless_free y u) e)
]
closed-opened d x ty (nameless_bound i) w = cond-false (nat_eq i d) _ _ (number-less i d w)
closed-opened d x ty (nameless_loose y) w = refl
closed-opened d x ty (nameless_constant c ts) w = refl
closed-opened d x ty (nameless_application f a) w =
    λ i. nameless_application (closed-opened d x ty f w.0 i) (closed-opened d x ty a w.1 i)
closed-opened d x ty (nameless_abstraction u b) w = ap (nameless_abstraction u) (closed-opened (suc d) x ty b w)

-- a term without the variable stays
pub closed-same : (d : ℕ) (x : Chars) (ty : TypeTree) (t : Nameless) → nameless_has_free x ty t ≡ false → abstracted d x ty t ≡ t
closed-same d x ty (nameless_free y u) e = cond-false (same_name x y && same_type ty u) _ _ e
closed-same d x ty (nameless_bound i) e = refl
closed-same d x ty (nameless_loose y) e = refl
closed-same d x ty (nameless_constant c ts) e = refl
closed-same d x ty (nameless_application f a) e =
    let h = or_parts (nameless_has_free x ty f) (nameless_has_free x ty a) e in
    λ i. nameless_application (closed-same d x ty f h.0 i) (closed-same d x ty a h.1 i)
closed-same d x ty (nameless_abstraction u b) e = ap (nameless_abstraction u) (closed-same (suc d) x ty b e)

-- the variable is gone
pub closed-gone : (d : ℕ) (x : Chars) (ty : TypeTree) (t : Nameless) → nameless_has_free x ty (abstracted d x ty t) ≡ false
closed-gone d x ty (nameless_free y u) = elim (cases_Bool (same_name x y && same_type ty u)) [
  | inl e ↦ ap (nameless_has_free x ty)
      (cond-true (same_name x y && same_type ty u) (nameless_bound d) (nameless_free y u) e)
  | inr e ↦ ap (nameless_has_free x ty)
      (cond-false (same_name x y && same_type ty u) (nameless_bound d) (nameless_free y u) e) ∙ e
]
closed-gone d x ty (nameless_bound i) = refl
closed-gone d x ty (nameless_loose y) = refl
closed-gone d x ty (nameless_constant c ts) = refl
closed-gone d x ty (nameless_application f a) = or_from _ _ (closed-gone d x ty f) (closed-gone d x ty a)
closed-gone d x ty (nameless_abstraction u b) = closed-gone (suc d) x ty b

-- no other variable comes
pub closed-other : (d : ℕ) (x y : Chars) (ty u : TypeTree) (t : Nameless) → nameless_has_free y u t ≡ false
    → nameless_has_free y u (abstracted d x ty t) ≡ false
closed-other d x y ty u (nameless_free z v) e = elim (cases_Bool (same_name x z && same_type ty v)) [
  | inl q ↦ ap (nameless_has_free y u)
      (cond-true (same_name x z && same_type ty v) (nameless_bound d) (nameless_free z v) q)
  | inr q ↦ ap (nameless_has_free y u)
      (cond-false (same_name x z && same_type ty v) (nameless_bound d) (nameless_free z v) q) ∙ e
]
closed-other d x y ty u (nameless_bound i) e = refl
closed-other d x y ty u (nameless_loose z) e = refl
closed-other d x y ty u (nameless_constant c ts) e = refl
closed-other d x y ty u (nameless_application f a) e =
    let h = or_parts (nameless_has_free y u f) (nameless_has_free y u a) e in
    or_from _ _ (closed-other d x y ty u f h.0) (closed-other d x y ty u a h.1)
closed-other d x y ty u (nameless_abstraction v b) e = closed-other (suc d) x y ty u b e

-- the type stays, under one binder more
last-type : (tys : List TypeTree) (ty : TypeTree) → slice_get (tys ++ ty ∷ []) (length tys) ≡ Some ty
last-type [] ty = refl
last-type (u ∷ tys) ty = last-type tys ty

earlier-type : (tys : List TypeTree) (ty : TypeTree) (i : ℕ) → i < length tys → slice_get (tys ++ ty ∷ []) i ≡ slice_get tys i
earlier-type [] ty i h = absurd (omega arith)
earlier-type (u ∷ tys) ty zero h = refl
earlier-type (u ∷ tys) ty (suc i) h = earlier-type tys ty i (omega arith)

pub closed-typed : (sig : Signature) (tys : List TypeTree) (x : Chars) (ty : TypeTree) (t : Nameless)
    → type_fault sig ty ≡ None → IsWhole (length tys) t
    → nameless_typed sig (tys ++ ty ∷ []) (abstracted (length tys) x ty t) ≡ nameless_typed sig tys t
closed-typed sig tys x ty (nameless_free y u) h w = elim (cases_Bool (same_name x y && same_type ty u)) [
  | inl e ↦ ap (nameless_typed sig (tys ++ ty ∷ []))
      (cond-true (same_name x y && same_type ty u) (nameless_bound (length tys)) (nameless_free y u) e)
      ∙ ap (bound_type []) (last-type tys ty)
      ∙ sym (ap (λ o. unless o (Ok ty)) h) ∙ ap (nameless_typed sig tys) (variable-is x y ty u e)
  | inr e ↦ ap (nameless_typed sig (tys ++ ty ∷ []))
      (cond-false (same_name x y && same_type ty u) (nameless_bound (length tys)) (nameless_free y u) e)
]
closed-typed sig tys x ty (nameless_bound i) h w = ap (bound_type []) (earlier-type tys ty i w)
closed-typed sig tys x ty (nameless_loose y) h w = refl
closed-typed sig tys x ty (nameless_constant c ts) h w = refl
closed-typed sig tys x ty (nameless_application f a) h w =
    λ i. with_ok (closed-typed sig tys x ty f h w.0 i) (λ t. with_ok (closed-typed sig tys x ty a h w.1 i) (λ u. applied_type t u))
closed-typed sig tys x ty (nameless_abstraction v b) h w =
    ap (λ r. unless (type_fault sig v) (with_ok r (λ u. Ok (fun v u)))) (closed-typed sig (v ∷ tys) x ty b h w)
