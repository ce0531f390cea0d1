-- What opening, closing, replacing and type instances do to types, and what typed terms are.
use Rattle.std.proofs.Common.{◌≡◌, inl, inr, List, [], ◌∷◌, false, ◌&&◌, not, map, Some, None, refl, sym, ◌∙◌, ap, subst}
use Rattle.std.specs.List.{zip}
use Rattle.std.proofs.lemmas.Bool.{or_from}
use Rattle.lt_definitions.specs.Types.{Chars, same_name, found, TypeTree, TypeMap, fun, row, type_instance}
use Rattle.lt_definitions.specs.Terms.{TermTree, free_variable, bound_name, constant, application, abstraction, has_loose, HasNoLooseNames, term_instance}
use Rattle.lt_definitions.specs.Typing.{Signature, type_fault, types_fault, HasType}
use Rattle.lt_definitions.specs.Binding.{opened, replaced, Closes, closed_over}
use Rattle.lt_nameless.specs.Booleans.{IsSoundSignature}
use Rattle.lt_definitions.proofs.SameNames.{bool_cases, name-true}
use Rattle.lt_nameless.proofs.BindingLemmas.{if-false}
use Rattle.lt_nameless.proofs.Typings.{typed-has, has-typed}
use Rattle.lt_nameless.proofs.Closings.{closings_are_alpha}
use Rattle.lt_nameless.proofs.StatementTypes.{typed-sound}
use Rattle.lt_nameless.proofs.Substitutions.{opened-has, replaced-has, closed-has, instance-has}
use Rattle.lt_nameless.proofs.BooleanSteps.{typed-alpha}

pub opening_keeps_types : (sig : Signature) (x : Chars) (u : TypeTree) (by t : TermTree) (ty : TypeTree) → HasType sig [] by u
    → HasType sig ((x, u) ∷ []) t ty → HasType sig [] (opened x by t) ty
opening_keeps_types sig x u by t ty k h = opened-has sig [] x u by t ty refl k h

pub replacing_keeps_types : (sig : Signature) (x : Chars) (u : TypeTree) (by t : TermTree) (ty : TypeTree) → HasType sig [] by u
    → HasType sig [] t ty → HasType sig [] (replaced x u by t) ty
replacing_keeps_types sig x u by t ty k h = replaced-has sig [] x u by t ty k h

pub closing_keeps_types : (sig : Signature) (x : Chars) (u : TypeTree) (t c : TermTree) (ty : TypeTree) → type_fault sig u ≡ None → HasType sig [] t ty
    → Closes x u t c → HasType sig [] c (fun u ty)
closing_keeps_types sig x u t c ty e h k = typed-has sig [] c (fun u ty)
    (typed-alpha sig c (closed_over x u t) (closings_are_alpha x u t c k)
    ∙ has-typed sig [] (closed_over x u t) (fun u ty) (closed-has sig x u t ty e h))

zip-itself : (m : TypeMap) → zip (map (λ p. p.0) m) (map (λ p. p.1) m) ≡ m
zip-itself [] = refl
zip-itself (p ∷ m) = ap (λ k. p ∷ k) (zip-itself m)

pub instances_keep_types : (sig : Signature) (m : TypeMap) (t : TermTree) (ty : TypeTree) → types_fault sig (row (map (λ p. p.1) m)) ≡ None
    → HasType sig [] t ty → HasType sig [] (term_instance m t) (type_instance m ty)
instances_keep_types sig m t ty e h = subst (λ (k : TypeMap). HasType sig [] (term_instance k t) (type_instance k ty)) (zip-itself m)
    (instance-has sig (map (λ p. p.0) m) (map (λ p. p.1) m) [] t ty e h)

-- typed terms

not-loose : (sig : Signature) (env : List (Chars × TypeTree)) (x : Chars) (t : TermTree) (ty : TypeTree) → found x env ≡ None → HasType sig env t ty
    → has_loose x t ≡ false
not-loose sig env x (free_variable y u) ty e h = refl
not-loose sig env x (bound_name y) ty e h = elim (bool_cases (same_name x y)) [
  | inl s ↦ let some : None ≡ Some ty = sym e ∙ ap (λ (n : Chars). found n env) (name-true x y s) ∙ h in absurd (cc some)
  | inr s ↦ s
]
not-loose sig env x (constant c ts) ty e h = refl
not-loose sig env x (application f a) ty e h =
    or_from (has_loose x f) (has_loose x a) (not-loose sig env x f (fun h.0 ty) e h.1) (not-loose sig env x a h.0 e h.2)
not-loose sig env x (abstraction y u b) ty e h = elim (bool_cases (same_name x y)) [
  | inl s ↦ ap (λ v. not v && has_loose x b) s
  | inr s ↦ ap (λ v. not v && has_loose x b) s ∙ not-loose sig ((y, u) ∷ env) x b h.0 (if-false (same_name x y) (Some u) (found x env) s ∙ e) h.2
]

pub typed_terms_have_no_loose_names : (sig : Signature) (t : TermTree) (ty : TypeTree) → HasType sig [] t ty → HasNoLooseNames t
typed_terms_have_no_loose_names sig t ty h x = not-loose sig [] x t ty refl h

pub types_of_terms_are_sound : (sig : Signature) (t : TermTree) (ty : TypeTree) → IsSoundSignature sig → HasType sig [] t ty → type_fault sig ty ≡ None
types_of_terms_are_sound sig t ty s h = typed-sound sig s.built s.consts [] (λ c u e. absurd (cc e)) t ty h
