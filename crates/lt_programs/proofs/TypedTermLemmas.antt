-- The types of terms and of their parts, and that an opened body keeps its type.
use Rattle.std.proofs.Common.{◌≡◌, inl, inr, ℕ, zero, suc, ◌<◌, List, [], ◌∷◌, ◌++◌, length, true, false, nat_eq, slice_get, Result, Ok, Err, Option, Some, None, refl, sym, ◌∙◌, ap, subst, arith}
use Rattle.std.proofs.lemmas.Option.{same_Some, none-some}
use Rattle.std.proofs.lemmas.Bool.{cases_Bool, cond-true, cond-false}
use Rattle.std.proofs.lemmas.Bool.Decides.{nat_tests}
use Rattle.std.specs.Result.{result_err}
use Rattle.lt_definitions.specs.Types.{Chars, TypeTree, fun, same_type}
use Rattle.lt_definitions.specs.Typing.{Signature, Fault, with_ok, unless, bound_type, applied_type, is_of_type, type_fault}
use Rattle.lt_nameless.specs.Nameless.{Nameless, nameless_free, nameless_bound, nameless_loose, nameless_constant, nameless_application, nameless_abstraction, IsWhole}
use Rattle.lt_nameless.specs.NamelessRules.{nameless_typed, nameless_has_type, nameless_fault, nameless_beta, instance_at, abstracted}
use Rattle.lt_definitions.proofs.SameNames.{type-refl}
use Rattle.lt_nameless.proofs.NamelessClosings.{closed-typed}
use Rattle.lt_nameless.proofs.ClosedSteps.{typed-whole}
use Rattle.lt_nameless.proofs.Typings.{applied-ok}
use Rattle.lt_programs.specs.TypedTerms.{IsOfType}
use Rattle.lt_nameless.proofs.SameForms.{number-true}

-- further binders outside change nothing
pub typed-deeper : (sig : Signature) (tys us : List TypeTree) (t : Nameless) → IsWhole (length tys) t → nameless_typed sig (tys ++ us) t ≡ nameless_typed sig tys t
typed-deeper sig tys us (nameless_free x ty) w = refl
typed-deeper sig tys us (nameless_bound i) w = ap (bound_type []) (kept tys us i w)
  where
    kept : (tys us : List TypeTree) (i : ℕ) → i < length tys → slice_get (tys ++ us) i ≡ slice_get tys i
    kept [] us i h = absurd (omega arith)
    kept (t ∷ tys) us zero h = refl
    kept (t ∷ tys) us (suc i) h = kept tys us i (omega arith)
typed-deeper sig tys us (nameless_loose x) w = refl
typed-deeper sig tys us (nameless_constant c ts) w = refl
typed-deeper sig tys us (nameless_application f a) w =
    λ i. with_ok (typed-deeper sig tys us f w.0 i) (λ t. with_ok (typed-deeper sig tys us a w.1 i) (λ u. applied_type t u))
typed-deeper sig tys us (nameless_abstraction v b) w =
    ap (λ r. unless (type_fault sig v) (with_ok r (λ u. Ok (fun v u)))) (typed-deeper sig (v ∷ tys) us b w)

last-type : (tys : List TypeTree) (u : TypeTree) → slice_get (tys ++ u ∷ []) (length tys) ≡ Some u
last-type [] u = refl
last-type (t ∷ tys) u = last-type tys u

earlier-type : (tys : List TypeTree) (u : TypeTree) (i : ℕ) → i < length tys → slice_get (tys ++ u ∷ []) i ≡ slice_get tys i
earlier-type [] u i h = absurd (omega arith)
earlier-type (t ∷ tys) u zero h = refl
earlier-type (t ∷ tys) u (suc i) h = earlier-type tys u i (omega arith)

below : (i d : ℕ) → i < suc d → nat_eq i d ≡ false → i < d
below i d h e = grind (arith, nat_tests)

pub opened-typed : (sig : Signature) (tys : List TypeTree) (u : TypeTree) (by t : Nameless) → IsWhole 0 by → IsOfType sig by u → IsWhole (suc (length tys)) t
    → nameless_typed sig tys (instance_at (length tys) by t) ≡ nameless_typed sig (tys ++ u ∷ []) t
opened-typed sig tys u by (nameless_free x ty) h e w = refl
opened-typed sig tys u by (nameless_bound i) h e w = elim (cases_Bool (nat_eq i (length tys))) [
  | inl q ↦ ap (nameless_typed sig tys) (cond-true (nat_eq i (length tys)) by (nameless_bound i) q)
      ∙ typed-deeper sig [] tys by h ∙ e ∙ sym (ap (bound_type []) (ap (slice_get (tys ++ u ∷ [])) (number-true i (length tys) q) ∙ last-type tys u))
  | inr q ↦ ap (nameless_typed sig tys) (cond-false (nat_eq i (length tys)) by (nameless_bound i) q)
      ∙ sym (ap (bound_type []) (earlier-type tys u i (below i (length tys) w q)))
]
opened-typed sig tys u by (nameless_loose x) h e w = refl
opened-typed sig tys u by (nameless_constant c ts) h e w = refl
opened-typed sig tys u by (nameless_application f a) h e w =
    λ i. with_ok (opened-typed sig tys u by f h e w.0 i) (λ t. with_ok (opened-typed sig tys u by a h e w.1 i) (λ v. applied_type t v))
opened-typed sig tys u by (nameless_abstraction v b) h e w =
    ap (λ r. unless (type_fault sig v) (with_ok r (λ c. Ok (fun v c)))) (opened-typed sig (v ∷ tys) u by b h e w)

-- ---- the types of parts

ok-of : {A B : Type 0} (r : Result A Fault) (f : A → Result B Fault) (y : B) → with_ok r f ≡ Ok y → (x : A) × (r ≡ Ok x) × (f x ≡ Ok y)
ok-of (Ok x) f y e = (x, refl, e)
ok-of (Err d) f y e = absurd (cc e)

unless-of : {A : Type 0} (o : Option Fault) (r : Result A Fault) (x : A) → unless o r ≡ Ok x → (o ≡ None) × (r ≡ Ok x)
unless-of None r x e = (refl, e)
unless-of (Some f) r x e = absurd (cc e)

pub application-parts : (sig : Signature) (f a : Nameless) (ty : TypeTree) → IsOfType sig (nameless_application f a) ty → (u : TypeTree) × IsOfType sig f (fun u ty) × IsOfType sig a u
application-parts sig f a ty e =
    let h = ok-of (nameless_typed sig [] f) (λ t. with_ok (nameless_typed sig [] a) (λ u. applied_type t u)) ty e in
    let k = ok-of (nameless_typed sig [] a) (λ u. applied_type h.0 u) ty h.2 in
    (k.0, h.1 ∙ ap (λ (t : TypeTree). Ok t) (applied-ok h.0 k.0 ty k.2), k.1)

abbrev ok : TypeTree → Result TypeTree Fault
ok t = Ok t

ok-is : (t u : TypeTree) → ok t ≡ ok u → t ≡ u
ok-is t u q = cc q

pub ok-same : (t u : TypeTree) (r : Result TypeTree Fault) → r ≡ Ok t → r ≡ Ok u → t ≡ u
ok-same t u r e d = ok-is t u (sym e ∙ d)

fun-result : (a b c d : TypeTree) → fun a b ≡ fun c d → (a ≡ c) × (b ≡ d)
fun-result a b c d e = (cc e, cc e)

pub body-of : (sig : Signature) (u : TypeTree) (b : Nameless) (w ty : TypeTree) → IsOfType sig (nameless_abstraction u b) (fun w ty)
    → (type_fault sig u ≡ None) × (u ≡ w) × (nameless_typed sig (u ∷ []) b ≡ Ok ty)
body-of sig u b w ty e =
    let h = unless-of (type_fault sig u) (with_ok (nameless_typed sig (u ∷ []) b) (λ v. Ok (fun u v))) (fun w ty) e in
    let k = ok-of (nameless_typed sig (u ∷ []) b) (λ v. Ok (fun u v)) (fun w ty) h.1 in
    let s = fun-result u k.0 w ty (ok-is (fun u k.0) (fun w ty) k.2) in
    (h.0, s.0, k.1 ∙ ap (λ (v : TypeTree). Ok v) s.1)

pub abstraction-of : (sig : Signature) (u : TypeTree) (b : Nameless) (ty : TypeTree) → IsOfType sig (nameless_abstraction u b) ty
    → (v : TypeTree) × (type_fault sig u ≡ None) × (nameless_typed sig (u ∷ []) b ≡ Ok v) × (fun u v ≡ ty)
abstraction-of sig u b ty e =
    let h = unless-of (type_fault sig u) (with_ok (nameless_typed sig (u ∷ []) b) (λ v. Ok (fun u v))) ty e in
    let k = ok-of (nameless_typed sig (u ∷ []) b) (λ v. Ok (fun u v)) ty h.1 in
    (k.0, h.0, k.1, ok-is (fun u k.0) ty k.2)

-- a body opened by an argument of its binder's type
pub opened-of : (sig : Signature) (u v : TypeTree) (b a : Nameless) → nameless_typed sig (u ∷ []) b ≡ Ok v → IsOfType sig a u → IsOfType sig (instance_at 0 a b) v
opened-of sig u v b a e d = opened-typed sig [] u a b (typed-whole sig [] a u d) d (typed-whole sig (u ∷ []) b v e) ∙ e

-- a redex and what it opens to
pub redex-typed : (sig : Signature) (u : TypeTree) (b a : Nameless) (ty : TypeTree) → IsOfType sig (nameless_application (nameless_abstraction u b) a) ty → IsOfType sig (instance_at 0 a b) ty
redex-typed sig u b a ty e =
    let h = application-parts sig (nameless_abstraction u b) a ty e in
    let k = body-of sig u b h.0 ty h.1 in
    opened-of sig u ty b a k.2 (h.2 ∙ ap (λ (v : TypeTree). Ok v) (sym k.1))

pub beta-typed : (sig : Signature) (t r : Nameless) (ty : TypeTree) → nameless_beta t ≡ Some r → IsOfType sig t ty → IsOfType sig r ty
beta-typed sig (nameless_application (nameless_abstraction u b) a) r ty e d = subst (λ q. IsOfType sig q ty) (same_Some (instance_at 0 a b) r e) (redex-typed sig u b a ty d)
beta-typed sig (nameless_application (nameless_free x v) a) r ty e d = absurd (none-some r e)
beta-typed sig (nameless_application (nameless_bound i) a) r ty e d = absurd (none-some r e)
beta-typed sig (nameless_application (nameless_loose x) a) r ty e d = absurd (none-some r e)
beta-typed sig (nameless_application (nameless_constant c ts) a) r ty e d = absurd (none-some r e)
beta-typed sig (nameless_application (nameless_application f b) a) r ty e d = absurd (none-some r e)
beta-typed sig (nameless_free x v) r ty e d = absurd (none-some r e)
beta-typed sig (nameless_bound i) r ty e d = absurd (none-some r e)
beta-typed sig (nameless_loose x) r ty e d = absurd (none-some r e)
beta-typed sig (nameless_constant c ts) r ty e d = absurd (none-some r e)
beta-typed sig (nameless_abstraction u b) r ty e d = absurd (none-some r e)

-- the type as a test
pub has : (sig : Signature) (t : Nameless) (ty : TypeTree) → IsOfType sig t ty → nameless_has_type sig t ty ≡ true
has sig t ty e = ap (is_of_type ty) e ∙ type-refl ty

-- an application of a function to an argument of its type
pub application-of : (sig : Signature) (f a : Nameless) (t u : TypeTree) → IsOfType sig f (fun t u) → IsOfType sig a t → IsOfType sig (nameless_application f a) u
application-of sig f a t u e d =
    ap (λ r. with_ok r (λ v. with_ok (nameless_typed sig [] a) (λ w. applied_type v w))) e
    ∙ ap (λ r. with_ok r (λ w. applied_type (fun t u) w)) d
    ∙ cond-true (same_type t t) (Ok u) _ (type-refl t)

-- an abstraction over a free variable
pub closed-of : (sig : Signature) (x : Chars) (ty : TypeTree) (t : Nameless) (u : TypeTree) → type_fault sig ty ≡ None → IsOfType sig t u
    → IsOfType sig (nameless_abstraction ty (abstracted 0 x ty t)) (fun ty u)
closed-of sig x ty t u s e =
    let body : nameless_typed sig (ty ∷ []) (abstracted 0 x ty t) ≡ Ok u = closed-typed sig [] x ty t s (typed-whole sig [] t u e) ∙ e in
    λ i. unless (s i) (with_ok (body i) (λ v. Ok (fun ty v)))

-- no fault
pub of-sound : (sig : Signature) (t : Nameless) (ty : TypeTree) → IsOfType sig t ty → nameless_fault sig t ≡ None
of-sound sig t ty e = ap result_err e
