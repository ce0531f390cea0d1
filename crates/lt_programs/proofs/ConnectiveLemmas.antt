-- What is stated, and what the laws of conjunction and existence give of lines.
use Rattle.std.proofs.Common.{◌≡◌, ℕ, zero, suc, inl, inr, List, [], ◌∷◌, ◌++◌, length, Bool, true, false, ◌||◌, ◌&&◌, if◌then◌else◌, unwrap_or, Option, Some, None, Result, Ok, Err, codes, refl, sym, ◌∙◌, ap, subst, arith}
use Rattle.std.specs.Prelude.{option_map}
use Rattle.std.specs.List.{All}
use Rattle.std.specs.Result.{result_unwrap_or}
use Rattle.std.proofs.lemmas.Option.{same_Some, none-some}
use Rattle.std.proofs.lemmas.Bool.{cases_Bool, cond-true, cond-false, true≢false, and_parts}
use Rattle.lt_definitions.specs.Types.{Chars, same_name, found, TypeTree, type_constructor, no_types, type_and, same_type, bool, fun}
use Rattle.lt_definitions.specs.Typing.{Signature, Fault, type_fault, is_of_type, with_ok}
use Rattle.lt_definitions.specs.Rules.{where_holds, with_found, predicate_over}
use Rattle.lt_definitions.specs.declared.reason.Reason.TheVariants.{MiddleDiffers, TypeDiffers, UnknownLabel}
use Rattle.lt_definitions.proofs.SameNames.{name-true, type-true}
use Rattle.lt_definitions.proofs.RuleLemmas.{some-if, holds-on, fails-on}
use Rattle.lt_definitions.proofs.TypingLemmas.{typed-some}
use Rattle.lt_nameless.specs.Booleans.{IsSoundSignature}
use Rattle.lt_nameless.specs.Nameless.{Nameless, nameless_bound, nameless_constant, nameless_application, NamelessSequent, named}
use Rattle.lt_nameless.proofs.ClosedForms.{nameless_of_named}
use Rattle.lt_nameless.proofs.ClosedSteps.{typed-whole}
use Rattle.lt_nameless.proofs.Typings.{typed-has}
use Rattle.lt_nameless.proofs.NamelessTyping.{typed-nameless}
use Rattle.lt_nameless.proofs.StatementTypes.{typed-sound}
use Rattle.lt_nameless.specs.NamelessRules.{NamelessOutcome, same_nameless, nameless_typed, nameless_fault, nameless_has_type, nameless_type_of, nameless_at, nameless_implies, nameless_union, nameless_gives, IsBooleanNameless, detached}
use Rattle.lt_nameless.proofs.SameForms.{same-is, same-refl}
use Rattle.lt_programs.specs.Programs.{theorem, at_each, detached_by}
use Rattle.lt_programs.specs.Openings.{HaveTypes}
use Rattle.lt_programs.specs.TypedTerms.{IsOfType}
use Rattle.lt_programs.specs.Connectives.{conjunction, as_conjunction, existence, as_existence, chosen, conjunction_law, left_law, right_law, existence_law, choice_law, both_give, is_stated, ex_definition, exists_at}
use Rattle.lt_programs.proofs.Filled.{at-each-filled}
use Rattle.lt_programs.proofs.TypedTermLemmas.{has}

-- a statement that is the label's
pub stated-found : (named : List (Chars × Nameless)) (l : Chars) (p : Nameless) → is_stated named l p ≡ true → found l named ≡ Some p
stated-found named l p e = by (found l named) e
  where
    by : (o : Option Nameless) → unwrap_or (option_map (same_nameless p) o) false ≡ true → o ≡ Some p
    by None h = absurd (true≢false (sym h))
    by (Some q) h = ap (λ (t : Nameless). Some t) (sym (same-is p q h))

pub found-stated : (named : List (Chars × Nameless)) (l : Chars) (p q : Nameless) → found l named ≡ Some q → same_nameless p q ≡ true → is_stated named l p ≡ true
found-stated named l p q e h = ap (λ o. unwrap_or (option_map (same_nameless p) o) false) e ∙ h

pub found-differs : (named : List (Chars × Nameless)) (l : Chars) (p q : Nameless) → found l named ≡ Some q → same_nameless p q ≡ false → is_stated named l p ≡ false
found-differs named l p q e h = ap (λ o. unwrap_or (option_map (same_nameless p) o) false) e ∙ h

pub found-nothing : (named : List (Chars × Nameless)) (l : Chars) (p : Nameless) → found l named ≡ None → is_stated named l p ≡ false
found-nothing named l p e = ap (λ o. unwrap_or (option_map (same_nameless p) o) false) e

-- what is found among boolean statements is boolean
pub found-boolean : (sig : Signature) (named : List (Chars × Nameless)) → All (λ (p : Chars × Nameless). IsBooleanNameless sig p.1) named
    → (l : Chars) (p : Nameless) → found l named ≡ Some p → IsBooleanNameless sig p
found-boolean sig [] h l p e = absurd (none-some p e)
found-boolean sig (n ∷ ns) h l p e = elim (cases_Bool (same_name l n.0)) [
  | inl k ↦ subst (IsBooleanNameless sig) (same_Some n.1 p (sym (cond-true (same_name l n.0) (Some n.1) (found l ns) k) ∙ e)) (h 0 n (omega arith))
  | inr k ↦ found-boolean sig ns (λ j d b. h (suc j) d (omega arith)) l p (sym (cond-false (same_name l n.0) (Some n.1) (found l ns) k) ∙ e)
]

-- ---- from an implication

pub detached-is : (hs : List Nameless) (p q : Nameless) (u : NamelessSequent) → p ≡ u.concl
    → detached (record { hyps = hs; concl = nameless_implies p q }) u ≡ nameless_gives (nameless_union hs u.hyps) q
detached-is hs p q u e = ap (λ b. where_holds b MiddleDiffers (nameless_gives (nameless_union hs u.hyps) q)) (ap (same_nameless p) (sym e) ∙ same-refl p)

module _ (sig : Signature) (p q : Nameless) (hp : IsBooleanNameless sig p) (hq : IsBooleanNameless sig q) where
  boolean-both : HaveTypes sig (p ∷ q ∷ []) (bool ∷ bool ∷ [])
  boolean-both = (has sig p bool hp, (has sig q bool hq, tt))

  pub conjunction-at : at_each sig (p ∷ q ∷ []) (theorem conjunction_law) ≡ Ok (theorem (both_give p q (conjunction p q)))
  conjunction-at = at-each-filled sig (bool ∷ bool ∷ []) (p ∷ q ∷ []) (both_give (nameless_bound 1) (nameless_bound 0) (conjunction (nameless_bound 1) (nameless_bound 0))) boolean-both

  pub left-at : at_each sig (p ∷ q ∷ []) (theorem left_law) ≡ Ok (theorem (nameless_implies (conjunction p q) p))
  left-at = at-each-filled sig (bool ∷ bool ∷ []) (p ∷ q ∷ []) (nameless_implies (conjunction (nameless_bound 1) (nameless_bound 0)) (nameless_bound 1)) boolean-both

  pub right-at : at_each sig (p ∷ q ∷ []) (theorem right_law) ≡ Ok (theorem (nameless_implies (conjunction p q) q))
  right-at = at-each-filled sig (bool ∷ bool ∷ []) (p ∷ q ∷ []) (nameless_implies (conjunction (nameless_bound 1) (nameless_bound 0)) (nameless_bound 0)) boolean-both

pub existence-at : (sig : Signature) (ty : TypeTree) (p t : Nameless) → IsOfType sig p (fun ty bool) → IsOfType sig t ty
    → at_each sig (p ∷ t ∷ []) (theorem (existence_law ty)) ≡ Ok (theorem (nameless_implies (nameless_application p t) (existence ty p)))
existence-at sig ty p t hp ht =
    at-each-filled sig (fun ty bool ∷ ty ∷ []) (p ∷ t ∷ [])
    (nameless_implies (nameless_application (nameless_bound 1) (nameless_bound 0)) (existence ty (nameless_bound 1)))
    (has sig p (fun ty bool) hp, (has sig t ty ht, tt))

pub choice-at : (sig : Signature) (ty : TypeTree) (p : Nameless) → IsOfType sig p (fun ty bool)
    → at_each sig (p ∷ []) (theorem (choice_law ty)) ≡ Ok (theorem (nameless_implies (existence ty p) (nameless_application p (chosen ty p))))
choice-at sig ty p hp =
    at-each-filled sig (fun ty bool ∷ []) (p ∷ [])
    (nameless_implies (existence ty (nameless_bound 0)) (nameless_application (nameless_bound 0) (chosen ty (nameless_bound 0))))
    (has sig p (fun ty bool) hp, tt)

-- what has the sides of a conjunction is one, and likewise for an existence
pub conjunction-is : (t : Nameless) (e : Nameless × Nameless) → as_conjunction t ≡ Some e → t ≡ conjunction e.0 e.1
conjunction-is (nameless_application (nameless_application (nameless_constant c []) p) q) e h =
    let k = some-if (same_name c (codes "and")) (p, q) e h in
    let name : c ≡ codes "and" = name-true c (codes "and") k.0 in
    λ i. nameless_application (nameless_application (nameless_constant (name i) []) (k.1 i).0) (k.1 i).1
conjunction-is t e h = absurd (cc h)

pub existence-is : (t : Nameless) (e : TypeTree × Nameless) → as_existence t ≡ Some e → t ≡ existence e.0 e.1
existence-is (nameless_application (nameless_constant c (ty ∷ [])) p) e h =
    let k = some-if (same_name c (codes "ex")) (ty, p) e h in
    let name : c ≡ codes "ex" = name-true c (codes "ex") k.0 in
    λ i. nameless_application (nameless_constant (name i) ((k.1 i).0 ∷ [])) (k.1 i).1
existence-is t e h = absurd (cc h)

-- ---- existence

-- a type that is over another one is that of predicates on it
pub predicate-is : (t ty : TypeTree) → predicate_over t ≡ Some ty → t ≡ fun ty bool
predicate-is (type_constructor c (type_and from (type_and to no_types))) ty e =
    let h = some-if (same_name c (codes "fun") && same_type to bool) from ty e in
    let k = and_parts (same_name c (codes "fun")) (same_type to bool) h.0 in
    let name : c ≡ codes "fun" = name-true c (codes "fun") k.0 in
    let res : to ≡ bool = type-true to bool k.1 in
    let arg : from ≡ ty = h.1 in
    λ i. type_constructor (name i) (type_and (arg i) (type_and (res i) no_types))
predicate-is t ty e = absurd (cc e)

-- the type of a typed term has no fault
pub type-sound : (sig : Signature) → IsSoundSignature sig → (t : Nameless) (ty : TypeTree) → IsOfType sig t ty → type_fault sig ty ≡ None
type-sound sig s t ty e =
    let back = nameless_of_named t (typed-whole sig [] t ty e) in
    typed-sound sig s.built s.consts [] (λ c u h. absurd (none-some u h)) (named 0 t) ty
    (typed-has sig [] (named 0 t) ty (typed-nameless sig [] (named 0 t) ∙ ap (nameless_typed sig []) back ∙ e))

-- a term that is a predicate by its type
pub typed-predicate : (sig : Signature) (p : Nameless) (ty : TypeTree) → nameless_fault sig p ≡ None → predicate_over (nameless_type_of sig p) ≡ Some ty → IsOfType sig p (fun ty bool)
typed-predicate sig p ty h e =
    let u = typed-some (nameless_typed sig [] p) h in
    let is : nameless_type_of sig p ≡ u.0 = ap (λ r. result_unwrap_or r bool) u.1 in
    u.1 ∙ ap (λ (t : TypeTree). Ok t) (predicate-is u.0 ty (ap predicate_over (sym is) ∙ e))

-- a type by its test
pub of-test : (sig : Signature) (t : Nameless) (ty : TypeTree) → nameless_has_type sig t ty ≡ true → IsOfType sig t ty
of-test sig t ty e = by (nameless_typed sig [] t) refl e
  where
    by : (r : Result TypeTree Fault) → nameless_typed sig [] t ≡ r → is_of_type ty r ≡ true → IsOfType sig t ty
    by (Ok u) d h = d ∙ ap (λ (v : TypeTree). Ok v) (sym (type-true ty u h))
    by (Err f) d h = absurd (true≢false (sym h))

-- what `exists` gives, test by test
module _ (sig : Signature) (named : List (Chars × Nameless)) (p t : Nameless) (s : NamelessSequent) (stated : is_stated named (codes "ex_def") ex_definition ≡ true) where
  abbrev over_type : TypeTree → NamelessOutcome
  over_type ty = where_holds (nameless_has_type sig t ty) TypeDiffers
      (where_holds (same_nameless (nameless_application p t) s.concl || same_nameless (nameless_at p t) s.concl) MiddleDiffers
      (nameless_gives (nameless_union [] s.hyps) (existence ty p)))

  begins-ex : exists_at sig named p t s ≡ with_found TypeDiffers (predicate_over (nameless_type_of sig p)) over_type
  begins-ex = holds-on (is_stated named (codes "ex_def") ex_definition) UnknownLabel _ stated

  pub no-predicate : predicate_over (nameless_type_of sig p) ≡ None → exists_at sig named p t s ≡ Err TypeDiffers
  no-predicate e = begins-ex ∙ ap (λ o. with_found TypeDiffers o over_type) e

  module _ (ty : TypeTree) (e : predicate_over (nameless_type_of sig p) ≡ Some ty) where
    pub no-element : nameless_has_type sig t ty ≡ false → exists_at sig named p t s ≡ Err TypeDiffers
    no-element h = begins-ex ∙ ap (λ o. with_found TypeDiffers o over_type) e ∙ fails-on (nameless_has_type sig t ty) TypeDiffers _ h

    pub of-element : nameless_has_type sig t ty ≡ true → exists_at sig named p t s
        ≡ where_holds (same_nameless (nameless_application p t) s.concl || same_nameless (nameless_at p t) s.concl) MiddleDiffers
        (nameless_gives (nameless_union [] s.hyps) (existence ty p))
    of-element h = begins-ex ∙ ap (λ o. with_found TypeDiffers o over_type) e ∙ holds-on (nameless_has_type sig t ty) TypeDiffers _ h
