-- Equal functions by their values at a new variable.
use Rattle.std.proofs.Common.{◌≡◌, ℕ, suc, ◌<◌, Bool, true, false, not, ◌||◌, ◌&&◌, unwrap_or, nat_eq, Option, Some, None, Ok, refl, sym, ◌∙◌, ap, arith}
use Rattle.std.specs.List.{list_any}
use Rattle.std.proofs.lemmas.Bool.{cond-true, and_from}
use Rattle.std.proofs.lemmas.Bool.Decides.{nat_tests}
use Rattle.lt_definitions.specs.Types.{Chars, TypeTree, fun, same_name, same_type}
use Rattle.lt_definitions.specs.Typing.{with_ok}
use Rattle.lt_definitions.specs.Rules.{where_holds, with_found}
use Rattle.lt_definitions.specs.declared.reason.Reason.TheVariants.{NotEquation, MiddleDiffers, VariableInHypothesis}
use Rattle.lt_definitions.proofs.SameNames.{true-name, type-refl}
use Rattle.lt_definitions.proofs.RuleLemmas.{found-on, holds-on}
use Rattle.lt_nameless.specs.Nameless.{Nameless, nameless_free, nameless_bound, nameless_loose, nameless_constant, nameless_application, nameless_abstraction, NamelessSequent, IsWhole}
use Rattle.lt_nameless.specs.NamelessRules.{NamelessOutcome, same_nameless, nameless_as_equation, nameless_equation, nameless_eta, nameless_has_free, has_index, nameless_gives, abstracted, abstracted_both, linked, turned}
use Rattle.lt_nameless.proofs.NamelessClosings.{closed-same}
use Rattle.lt_nameless.proofs.SameForms.{same-refl}
use Rattle.lt_programs.specs.Programs.{theorem}
use Rattle.lt_programs.specs.Extensionality.{contracted, right_contracted, function_of, functions_equal}

other-number : (i d : ℕ) → i < d → nat_eq i d ≡ false
other-number i d h = grind (arith, nat_tests)

or-false : (a b : Bool) → a ≡ false → b ≡ false → (a || b) ≡ false
or-false a b e d = ap (λ x. x || b) e ∙ d

-- a term whose indices all belong to its binders, or to d around it, doesn't have the next one
without-index : (d : ℕ) (t : Nameless) → IsWhole d t → has_index d t ≡ false
without-index d (nameless_free x ty) w = refl
without-index d (nameless_bound i) w = other-number i d w
without-index d (nameless_loose x) w = refl
without-index d (nameless_constant c ts) w = refl
without-index d (nameless_application f a) w = or-false (has_index d f) (has_index d a) (without-index d f w.0) (without-index d a w.1)
without-index d (nameless_abstraction u b) w = without-index (suc d) b w

-- the function of a variable that f x is
pub value-function : (x : Chars) (ty : TypeTree) (f : Nameless) → IsWhole 0 f → nameless_has_free x ty f ≡ false
    → function_of x ty (nameless_application f (nameless_free x ty)) ≡ f
value-function x ty f w h =
    ap (λ (b : Nameless). contracted (nameless_abstraction ty (nameless_application b (abstracted 0 x ty (nameless_free x ty))))) (closed-same 0 x ty f h)
    ∙ ap (λ (b : Nameless). contracted (nameless_abstraction ty (nameless_application f b)))
    (cond-true (same_name x x && same_type ty ty) (nameless_bound 0) (nameless_free x ty) (and_from (same_name x x) (same_type ty ty) (true-name x x refl) (type-refl ty)))
    ∙ ap (λ (o : Option Nameless). unwrap_or o (nameless_abstraction ty (nameless_application f (nameless_bound 0))))
    (cond-true (not (has_index 0 f)) (Some f) None (ap not (without-index 0 f w)))

-- the equation that eta gives contracts the right side
pub contracted-by : (s : NamelessSequent) (ty u : TypeTree) (l r f : Nameless) → nameless_as_equation s.concl ≡ Some (ty, l, r) → nameless_eta r ≡ Some f
    → linked s (theorem (nameless_equation u r f)) ≡ right_contracted s
contracted-by s ty u l r f e h =
    found-on _ (nameless_as_equation s.concl) (ty, l, r) _ e
    ∙ holds-on (same_nameless r r) MiddleDiffers (nameless_gives s.hyps (nameless_equation ty l f)) (same-refl r)
    ∙ sym (found-on _ (nameless_as_equation s.concl) (ty, l, r) _ e
    ∙ ap (λ (o : Option Nameless). nameless_gives s.hyps (nameless_equation ty l (unwrap_or o r))) h)

-- .. and another right side stays
pub contracted-none : (s : NamelessSequent) (ty : TypeTree) (l r : Nameless) → s.concl ≡ nameless_equation ty l r → nameless_eta r ≡ None → right_contracted s ≡ Ok s
contracted-none s ty l r e h =
    ap (λ c. with_found NotEquation (nameless_as_equation c) (λ d. nameless_gives s.hyps (nameless_equation d.0 d.1 (contracted d.2)))) e
    ∙ ap (λ (o : Option Nameless). nameless_gives s.hyps (nameless_equation ty l (unwrap_or o r))) h
    ∙ ap (λ c. nameless_gives s.hyps c) (sym e)

-- the rules one after another
abbrev by-rules : NamelessOutcome → NamelessOutcome
by-rules o = with_ok o (λ u. with_ok (right_contracted u) (λ v. with_ok (turned v) (λ w. with_ok (right_contracted w) turned)))

pub functions-derived : (x : Chars) (ty : TypeTree) (s : NamelessSequent) → functions_equal x ty s
    ≡ with_ok (abstracted_both x ty s) (λ u. with_ok (right_contracted u) (λ v. with_ok (turned v) (λ w. with_ok (right_contracted w) turned)))
functions-derived x ty s = by (nameless_as_equation s.concl)
  where
    tested : (b : Bool) (u : TypeTree) (l r : Nameless)
        → where_holds b VariableInHypothesis (nameless_gives s.hyps (nameless_equation (fun ty u) (function_of x ty l) (function_of x ty r)))
        ≡ by-rules (where_holds b VariableInHypothesis (nameless_gives s.hyps (nameless_equation (fun ty u)
        (nameless_abstraction ty (abstracted 0 x ty l)) (nameless_abstraction ty (abstracted 0 x ty r)))))
    tested true u l r = refl
    tested false u l r = refl

    by : (o : Option (TypeTree × Nameless × Nameless))
        → with_found NotEquation o (λ e. where_holds (not (list_any (nameless_has_free x ty) s.hyps)) VariableInHypothesis
        (nameless_gives s.hyps (nameless_equation (fun ty e.0) (function_of x ty e.1) (function_of x ty e.2))))
        ≡ by-rules (with_found NotEquation o (λ e. where_holds (not (list_any (nameless_has_free x ty) s.hyps)) VariableInHypothesis
        (nameless_gives s.hyps (nameless_equation (fun ty e.0) (nameless_abstraction ty (abstracted 0 x ty e.1)) (nameless_abstraction ty (abstracted 0 x ty e.2))))))
    by None = refl
    by (Some (u, l, r)) = tested (not (list_any (nameless_has_free x ty) s.hyps)) u l r
