-- A law at types and terms is what its statement's instance gives.
use Rattle.std.proofs.Common.{◌≡◌, Bor, inl, inr, List, [], ◌∷◌, ◌&&◌, Bool, true, false, if◌then◌else◌, map, unwrap_or, Option, Some, None, Ok, codes, refl, sym, ◌∙◌, ap}
use Rattle.std.specs.Option.{option_copied}
use Rattle.std.proofs.lemmas.Bool.{cases_Bool, cond-true, cond-false, and_parts}
use Rattle.lt_definitions.specs.Types.{Chars, found, same_name, TypeTree, same_type, TypeMap, type_instance}
use Rattle.lt_definitions.specs.Terms.{TermTree, bound_name}
use Rattle.lt_definitions.specs.Alpha.{is_alpha}
use Rattle.lt_definitions.specs.Typing.{Signature}
use Rattle.lt_definitions.proofs.SameNames.{name-true, type-true}
use Rattle.lt_definitions.proofs.RuleLemmas.{found-on}
use Rattle.lt_nameless.specs.Nameless.{Nameless, nameless, nameless_free, nameless_bound, nameless_loose, nameless_constant, nameless_application, nameless_abstraction}
use Rattle.lt_nameless.specs.NamelessRules.{nameless_for_all, nameless_instance}
use Rattle.lt_nameless.proofs.NamelessTyping.{alpha-same}
use Rattle.lt_nameless.proofs.SameForms.{same-is}
use Rattle.lt_transport_definitions.specs.LawTexts.{law_statement}
use Rattle.lt_programs.specs.Programs.{theorem, at_each, named_at}
use Rattle.lt_programs.specs.Openings.{for_alls, HaveTypes}
use Rattle.lt_programs.proofs.Filled.{at-each-filled}
use Rattle.lt_laws.specs.declared.law_fault.LawFault.TheVariants.{LawDiffers}
use Rattle.lt_laws.specs.Registering.{Registered, differs_from, law_fault}
use Rattle.lt_laws.specs.Instances.{law_form, closed_parts, law_variables, law_at}

-- the parts make the statement
parts-back : (p : Nameless) → for_alls (closed_parts p).0 (closed_parts p).1 ≡ p
parts-back (nameless_application (nameless_constant c (ty ∷ [])) (nameless_abstraction u b)) =
    by (parts-back b) (same_name c (codes "all") && same_type ty u) refl
  where
    by : for_alls (closed_parts b).0 (closed_parts b).1 ≡ b → (t : Bool) → (same_name c (codes "all") && same_type ty u) ≡ t
        → for_alls (closed_parts (nameless_application (nameless_constant c (ty ∷ [])) (nameless_abstraction u b))).0 (closed_parts (nameless_application (nameless_constant c (ty ∷ [])) (nameless_abstraction u b))).1 ≡ nameless_application (nameless_constant c (ty ∷ [])) (nameless_abstraction u b)
    by rest true e =
        let k = and_parts (same_name c (codes "all")) (same_type ty u) e in
        ap (λ (q : List TypeTree × Nameless). for_alls q.0 q.1) (cond-true (same_name c (codes "all") && same_type ty u) (ty ∷ (closed_parts b).0, (closed_parts b).1) ([], nameless_application (nameless_constant c (ty ∷ [])) (nameless_abstraction u b)) e)
        ∙ (λ i. nameless_application (nameless_constant (sym (name-true c (codes "all") k.0) i) (ty ∷ [])) (nameless_abstraction (type-true ty u k.1 i) (rest i)))
    by rest false e = ap (λ (q : List TypeTree × Nameless). for_alls q.0 q.1) (cond-false (same_name c (codes "all") && same_type ty u) (ty ∷ (closed_parts b).0, (closed_parts b).1) ([], nameless_application (nameless_constant c (ty ∷ [])) (nameless_abstraction u b)) e)
parts-back (nameless_application (nameless_constant c (ty ∷ [])) (nameless_free x v)) = refl
parts-back (nameless_application (nameless_constant c (ty ∷ [])) (nameless_bound i)) = refl
parts-back (nameless_application (nameless_constant c (ty ∷ [])) (nameless_loose x)) = refl
parts-back (nameless_application (nameless_constant c (ty ∷ [])) (nameless_constant d ts)) = refl
parts-back (nameless_application (nameless_constant c (ty ∷ [])) (nameless_application f a)) = refl
parts-back (nameless_application (nameless_constant c []) a) = refl
parts-back (nameless_application (nameless_constant c (ty ∷ ty' ∷ tys)) a) = refl
parts-back (nameless_application (nameless_free x v) a) = refl
parts-back (nameless_application (nameless_bound i) a) = refl
parts-back (nameless_application (nameless_loose x) a) = refl
parts-back (nameless_application (nameless_application f b) a) = refl
parts-back (nameless_application (nameless_abstraction u b) a) = refl
parts-back (nameless_free x ty) = refl
parts-back (nameless_bound i) = refl
parts-back (nameless_loose x) = refl
parts-back (nameless_constant c ts) = refl
parts-back (nameless_abstraction ty b) = refl

-- types put in a statement that is closed over variables
for-alls-at : (m : TypeMap) (tys : List TypeTree) (b : Nameless) → nameless_instance m (for_alls tys b) ≡ for_alls (map (type_instance m) tys) (nameless_instance m b)
for-alls-at m [] b = refl
for-alls-at m (ty ∷ tys) b = ap (λ p. nameless_for_all (type_instance m ty) (nameless_abstraction (type_instance m ty) p)) (for-alls-at m tys b)

pub law-gives : (sig : Signature) (named : List (Chars × Nameless)) (l w : Chars) (m : TypeMap) (ts : List Nameless) → found l named ≡ Some (law_form w)
    → HaveTypes sig ts (map (type_instance m) (law_variables w)) → named_at sig named l m ts ≡ Ok (law_at w m ts)
law-gives sig named l w m ts e h =
    let parts = closed_parts (law_form w) in
    found-on _ (found l named) (law_form w) _ e
    ∙ ap (λ p. at_each sig ts (theorem p)) (ap (nameless_instance m) (sym (parts-back (law_form w))) ∙ for-alls-at m parts.0 parts.1)
    ∙ at-each-filled sig (map (type_instance m) parts.0) ts (nameless_instance m parts.1) h

-- the label that a look-up tells
pub label-found : (w : Chars) (laws : Registered) (o : Option (Bor Chars)) (l : Bor Chars) → o ≡ Some l → option_copied o ≡ found w laws → found w laws ≡ Some l.now
label-found w laws o l e h = sym h ∙ ap (λ (p : Option (Bor Chars)). option_copied p) e

pub label-none : (w : Chars) (laws : Registered) (o : Option (Bor Chars)) → o ≡ None → option_copied o ≡ found w laws → found w laws ≡ None
label-none w laws o e h = sym h ∙ ap (λ (p : Option (Bor Chars)). option_copied p) e

-- a statement that is accepted as a law's has its form
pub accepted-form : (w : Chars) (t : TermTree) → law_fault w t ≡ None → nameless [] t ≡ law_form w
accepted-form w t e = by (law_statement w) refl e
  where
    some-none : Some (LawDiffers w) ≡ None → ⊥
    some-none q = cc q

    by : (o : Option TermTree) → law_statement w ≡ o → differs_from w t o ≡ None → nameless [] t ≡ law_form w
    by None d h = absurd (cc h)
    by (Some law) d h = elim (cases_Bool (is_alpha t law)) [
      | inl k ↦ same-is (nameless [] t) (nameless [] law) (sym (alpha-same t law) ∙ k) ∙ sym (ap (λ (p : Option TermTree). nameless [] (unwrap_or p (bound_name []))) d)
      | inr k ↦ absurd (some-none (sym (cond-false (is_alpha t law) None (Some (LawDiffers w)) k) ∙ h))
    ]
