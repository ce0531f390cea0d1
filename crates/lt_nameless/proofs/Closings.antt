-- Closing: there is one closing, up to alpha equality.
use Rattle.std.proofs.Common.{◌≡◌, inl, inr, ℕ, suc, ◌<◌, [], ◌∷◌, false, ◌&&◌, length, nat_eq, refl, sym, ◌∙◌, ap, arith}
use Rattle.std.proofs.lemmas.Bool.{or_parts, or_from}
use Rattle.lt_definitions.specs.Types.{Chars, same_name, TypeTree, same_type}
use Rattle.lt_definitions.specs.Terms.{TermTree, free_variable, bound_name, constant, application, abstraction, has_free}
use Rattle.lt_definitions.specs.Alpha.{AreAlpha}
use Rattle.lt_definitions.specs.Binding.{opened, replaced, Closes, longest, new_binder, closed_over}
use Rattle.lt_nameless.specs.Nameless.{Nameless, nameless_free, nameless_bound, nameless_loose, nameless_constant, nameless_application, nameless_abstraction, nameless}
use Rattle.lt_nameless.specs.NamelessRules.{instance_at, abstracted, nameless_has_free}
use Rattle.lt_definitions.proofs.SameNames.{bool_cases, both-true, true-both, name-true, true-name, type-true, type-refl, longer-differs}
use Rattle.lt_nameless.proofs.Alphas.{alpha-nameless, nameless-alpha}
use Rattle.lt_nameless.proofs.BindingLemmas.{if-true, if-false, opened-nameless, closed-nameless, free-nameless, new_is_longer}
use Rattle.lt_nameless.proofs.SameForms.{number-true}

pub gone-replaced : (x : Chars) (ty : TypeTree) (n : Chars) (t : TermTree) → has_free x ty (replaced x ty (bound_name n) t) ≡ false
gone-replaced x ty n (free_variable y u) = elim (bool_cases (same_name x y && same_type ty u)) [
  | inl h ↦ ap (has_free x ty) (if-true (same_name x y && same_type ty u) (bound_name n) (free_variable y u) h)
  | inr h ↦ ap (has_free x ty) (if-false (same_name x y && same_type ty u) (bound_name n) (free_variable y u) h) ∙ h
]
gone-replaced x ty n (bound_name y) = refl
gone-replaced x ty n (constant c ts) = refl
gone-replaced x ty n (application f a) = or_from (has_free x ty (replaced x ty (bound_name n) f)) (has_free x ty (replaced x ty (bound_name n) a))
    (gone-replaced x ty n f) (gone-replaced x ty n a)
gone-replaced x ty n (abstraction y u b) = gone-replaced x ty n b

opened-back : (n x : Chars) (ty : TypeTree) (t : TermTree) → longest t < length n → opened n (free_variable x ty) (replaced x ty (bound_name n) t) ≡ t
opened-back n x ty (free_variable y u) l = elim (bool_cases (same_name x y && same_type ty u)) [
  | inl h ↦ ap (opened n (free_variable x ty)) (if-true (same_name x y && same_type ty u) (bound_name n) (free_variable y u) h)
      ∙ if-true (same_name n n) (free_variable x ty) (bound_name n) (true-name n n refl)
      ∙ (let k = both-true (same_name x y) (same_type ty u) h in λ i. free_variable (name-true x y k.0 i) (type-true ty u k.1 i))
  | inr h ↦ ap (opened n (free_variable x ty)) (if-false (same_name x y && same_type ty u) (bound_name n) (free_variable y u) h)
]
opened-back n x ty (bound_name y) l = if-false (same_name n y) (free_variable x ty) (bound_name y) (longer-differs n y l)
opened-back n x ty (constant c ts) l = refl
opened-back n x ty (application f a) l = λ i. application (opened-back n x ty f (omega arith) i) (opened-back n x ty a (omega arith) i)
opened-back n x ty (abstraction y u b) l = ap (abstraction y u)
    (if-false (same_name n y) (replaced x ty (bound_name n) b) (opened n (free_variable x ty) (replaced x ty (bound_name n) b)) (longer-differs n y (omega arith))
    ∙ opened-back n x ty b (omega arith))

pub closing_is_one : (x : Chars) (ty : TypeTree) (t : TermTree) → Closes x ty t (closed_over x ty t)
closing_is_one x ty t = record {
  binder = new_binder t;
  body = replaced x ty (bound_name (new_binder t)) t;
  is = refl;
  gone = gone-replaced x ty (new_binder t) t;
  back = nameless-alpha [] (opened (new_binder t) (free_variable x ty) (replaced x ty (bound_name (new_binder t)) t)) t
      (ap (nameless []) (opened-back (new_binder t) x ty t (new_is_longer t)));
}

-- abstracting undoes an instance by a free variable that isn't there
abstracted-instance : (d : ℕ) (x : Chars) (ty : TypeTree) (n : Nameless) → nameless_has_free x ty n ≡ false
    → abstracted d x ty (instance_at d (nameless_free x ty) n) ≡ n
abstracted-instance d x ty (nameless_free y u) e = if-false (same_name x y && same_type ty u) (nameless_bound d) (nameless_free y u) e
abstracted-instance d x ty (nameless_bound i) e = elim (bool_cases (nat_eq i d)) [
  | inl h ↦ ap (abstracted d x ty) (if-true (nat_eq i d) (nameless_free x ty) (nameless_bound i) h)
      ∙ if-true (same_name x x && same_type ty ty) (nameless_bound d) (nameless_free x ty) (true-both (same_name x x) (same_type ty ty) (true-name x x refl) (type-refl ty))
      ∙ ap nameless_bound (sym (number-true i d h))
  | inr h ↦ ap (abstracted d x ty) (if-false (nat_eq i d) (nameless_free x ty) (nameless_bound i) h)
]
abstracted-instance d x ty (nameless_loose y) e = refl
abstracted-instance d x ty (nameless_constant c ts) e = refl
abstracted-instance d x ty (nameless_application f a) e =
    let h = or_parts (nameless_has_free x ty f) (nameless_has_free x ty a) e in
    λ i. nameless_application (abstracted-instance d x ty f h.0 i) (abstracted-instance d x ty a h.1 i)
abstracted-instance d x ty (nameless_abstraction u b) e = ap (nameless_abstraction u) (abstracted-instance (suc d) x ty b e)

pub closings_are_alpha : (x : Chars) (ty : TypeTree) (t c : TermTree) → Closes x ty t c → AreAlpha [] c (closed_over x ty t)
closings_are_alpha x ty t c h =
    let inner : nameless (h.binder ∷ []) h.body ≡ abstracted 0 x ty (nameless [] t) =
    sym (abstracted-instance 0 x ty (nameless (h.binder ∷ []) h.body) (sym (free-nameless x ty (h.binder ∷ []) h.body) ∙ h.gone))
    ∙ ap (abstracted 0 x ty) (sym (opened-nameless h.binder (free_variable x ty) [] h.body (λ cs. refl) refl)
    ∙ alpha-nameless [] (opened h.binder (free_variable x ty) h.body) t h.back)
    in nameless-alpha [] c (closed_over x ty t) (ap (nameless []) h.is ∙ ap (nameless_abstraction ty) inner ∙ sym (closed-nameless x ty t))
