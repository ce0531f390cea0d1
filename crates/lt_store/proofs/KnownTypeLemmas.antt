-- The head of a typed term tells its type.
use Rattle.std.proofs.Common.{◌≡◌, ℕ, List, [], ◌∷◌, ◌++◌, ◌<◌, length, reverse, Option, Some, None, Result, Ok, Err, slice_get, slice_index_or, refl, ap, sym, ◌∙◌, codes}
use Rattle.std.specs.Result.{result_unwrap_or, result_err}
use Rattle.std.proofs.lemmas.Option.{get_or_from_slice_get}
use Rattle.std.proofs.lemmas.List.{reverse-append}
use Rattle.lt_definitions.specs.Types.{TypeTree, bool, fun, found}
use Rattle.lt_definitions.specs.Typing.{Signature, Fault, type_fault, with_ok, unless, bound_type, applied_type, constant_type}
use Rattle.lt_types.specs.FunctionTypes.{function_parts}
use Rattle.lt_nameless.specs.Nameless.{Nameless, nameless_free, nameless_bound, nameless_loose, nameless_constant, nameless_application, nameless_abstraction}
use Rattle.lt_nameless.specs.NamelessRules.{nameless_typed, nameless_type_of, nameless_fault}
use Rattle.lt_nameless.proofs.Typings.{applied-ok}
use Rattle.lt_hol.specs.TypeTables.{type_at, Extends}
use Rattle.lt_store.specs.declared.heads.TypeStep.{TypeStep}
use Rattle.lt_store.specs.declared.heads.TypeStep.TheVariants.{Apply, Cover}
use Rattle.lt_store.specs.TypeNumbers.{Has}
use Rattle.lt_store.specs.KnownTypes.{head_type, result_part, second_or, whole_type}
use Rattle.lt_store.proofs.TypeNumberLemmas.{unless-right, at-has, has-on, has-fun}

ok-parts : {A B : Type 0} (r : Result A Fault) (f : A → Result B Fault) (y : B) → with_ok r f ≡ Ok y → (x : A) × (r ≡ Ok x) × (f x ≡ Ok y)
ok-parts (Ok x) f y e = (x, refl, e)
ok-parts (Err k) f y e = cc e

unless-parts : {A : Type 0} (k : Option Fault) (r : Result A Fault) (y : A) → unless k r ≡ Ok y → r ≡ Ok y
unless-parts None r y e = e
unless-parts (Some k) r y e = cc e

parts-fun : (from to : TypeTree) → function_parts (fun from to) ≡ Some (from, to)
parts-fun from to = refl

bound-at : (tys : List TypeTree) (i : ℕ) (u : TypeTree) (o : Option TypeTree) → slice_get tys i ≡ o → bound_type [] o ≡ Ok u → slice_index_or tys i bool ≡ u
bound-at tys i u None at e = cc e
bound-at tys i u (Some t) at e = get_or_from_slice_get tys i t bool at ∙ cc e

pub head_typed : (sig : Signature) (tys : List TypeTree) (t : Nameless) (u : TypeTree) → nameless_typed sig tys t ≡ Ok u → head_type sig tys t ≡ u
head_typed sig tys (nameless_free x ty) u e = sym (unless-right (type_fault sig ty) ty u e).1
head_typed sig tys (nameless_bound i) u e = bound-at tys i u (slice_get tys i) refl e
head_typed sig tys (nameless_loose x) u e = cc e
head_typed sig tys (nameless_constant c ts) u e = ap (λ (r : Result TypeTree Fault). result_unwrap_or r bool) e
head_typed sig tys (nameless_application f a) u e =
    let f' = ok-parts (nameless_typed sig tys f) (λ t. with_ok (nameless_typed sig tys a) (λ v. applied_type t v)) u e in
    let a' = ok-parts (nameless_typed sig tys a) (λ v. applied_type f'.0 v) u f'.2 in
    let is : f'.0 ≡ fun a'.0 u = applied-ok f'.0 a'.0 u a'.2 in
    ap result_part (head_typed sig tys f f'.0 f'.1 ∙ is) ∙ ap (λ (o : Option (TypeTree × TypeTree)). second_or o (fun a'.0 u)) (parts-fun a'.0 u)
head_typed sig tys (nameless_abstraction ty b) u e =
    let b' = ok-parts (nameless_typed sig (ty ∷ tys) b) (λ v. Ok (fun ty v)) u (unless-parts (type_fault sig ty) _ u e) in
    ap (fun ty) (head_typed sig (ty ∷ tys) b b'.0 b'.1) ∙ cc b'.2

-- a term without a fault has the type that its head tells
pub head_known : (sig : Signature) (t : Nameless) → nameless_fault sig t ≡ None → head_type sig [] t ≡ nameless_type_of sig t
head_known sig t h = by (nameless_typed sig [] t) refl h
  where
    by : (r : Result TypeTree Fault) → nameless_typed sig [] t ≡ r → result_err r ≡ None → head_type sig [] t ≡ result_unwrap_or r bool
    by (Ok u) e k = head_typed sig [] t u e
    by (Err f) e k = cc k

-- steps into a part

pub enter-application : (sig : Signature) (old new : List TypeStep) (tys : List TypeTree) (f a t : Nameless) → new ≡ old ++ Apply ∷ [] → t ≡ nameless_application f a
    → whole_type sig (reverse new) tys f ≡ whole_type sig (reverse old) tys t
enter-application sig old new tys f a t e is =
    ap (λ (ss : List TypeStep). whole_type sig ss tys f) (ap reverse e ∙ reverse-append old (Apply ∷ [])) ∙ ap (whole_type sig (reverse old) tys) (sym is)

pub enter-abstraction : (sig : Signature) (old new : List TypeStep) (before after : List TypeTree) (ty : TypeTree) (b t : Nameless) → new ≡ old ++ Cover ty ∷ [] → after ≡ before ++ ty ∷ []
    → t ≡ nameless_abstraction ty b → whole_type sig (reverse new) (reverse after) b ≡ whole_type sig (reverse old) (reverse before) t
enter-abstraction sig old new before after ty b t e k is =
    ap (λ (ss : List TypeStep). whole_type sig ss (reverse after) b) (ap reverse e ∙ reverse-append old (Cover ty ∷ []))
    ∙ ap (λ (tys : List TypeTree). whole_type sig (Cover ty ∷ reverse old) tys b) (ap reverse k ∙ reverse-append before (ty ∷ [])) ∙ ap (whole_type sig (reverse old) (reverse before)) (sym is)

-- steps out of it

pub out-some : (ts : List TypeTree) (n i j : ℕ) → Some (type_at ts i, type_at ts j) ≡ function_parts (type_at ts n) → j < length ts → Has ts j (result_part (type_at ts n))
out-some ts n i j e h = at-has ts j h ∙ ap (λ (o : Option (TypeTree × TypeTree)). Some (second_or o (type_at ts n))) e

pub out-none : (ts : List TypeTree) (n : ℕ) → None ≡ function_parts (type_at ts n) → n < length ts → Has ts n (result_part (type_at ts n))
out-none ts n e h = at-has ts n h ∙ ap (λ (o : Option (TypeTree × TypeTree)). Some (second_or o (type_at ts n))) e

pub out-cover : (old mid new : List TypeTree) (n from made : ℕ) (ty : TypeTree) → n < length old → Extends old mid → Has mid from ty → Has new made (fun (type_at mid from) (type_at mid n)) → Has new made (fun ty (type_at old n))
out-cover old mid new n from made ty h grows has is =
    has-fun mid new from n made ty (type_at old n) is has (has-on old mid n (type_at old n) grows (at-has old n h))

-- a leaf

pub leaf-has : (sig : Signature) (ts tys : List TypeTree) (n : ℕ) (t leaf : Nameless) → t ≡ leaf → Has ts n (head_type sig tys leaf) → Has ts n (head_type sig tys t)
leaf-has sig ts tys n t leaf e h = h ∙ ap (λ (u : Nameless). Some (head_type sig tys u)) (sym e)
