-- Rules over nameless terms keep sequents boolean, since they are the rules over named ones.
use Rattle.std.proofs.Common.{◌≡◌, inl, inr, suc, zero, List, [], ◌∷◌, Some, None, Ok, Err, map, refl, sym, ◌∙◌, ap, subst, arith}
use Rattle.std.specs.List.{All}
use Rattle.lt_definitions.specs.Types.{Chars, same_name, TypeTree, bool, found}
use Rattle.lt_definitions.specs.Terms.{TermTree}
use Rattle.lt_definitions.specs.Typing.{Signature, type_fault, HasType}
use Rattle.lt_definitions.specs.Rules.{Sequent, Rule, rule_map, by_assume, by_weaken, by_refl, by_beta, by_eta, by_impI, by_allE, by_inst, by_select, by_ccontr, Outcome, step}
use Rattle.lt_definitions.specs.Derivations.{rule_fault, term_fault}
use Rattle.lt_nameless.specs.Booleans.{IsSoundSignature, IsBoolean, IsBooleanSequent}
use Rattle.lt_nameless.specs.Nameless.{Nameless, nameless, named, NamelessSequent, nameless_sequent}
use Rattle.lt_nameless.specs.NamelessRules.{nameless_typed, nameless_fault, nameless_rule, nameless_step, nameless_outcome, nameless_statements, IsBooleanNameless, IsBooleanNamelessSequent}
use Rattle.lt_definitions.proofs.SameNames.{bool_cases}
use Rattle.lt_nameless.proofs.Typings.{typed-has, has-typed}
use Rattle.lt_nameless.proofs.NamelessTyping.{typed-nameless}
use Rattle.lt_nameless.proofs.NamelessSteps.{step_is_nameless, faults_are_nameless}
use Rattle.lt_nameless.proofs.ClosedForms.{nameless_of_named}
use Rattle.lt_nameless.proofs.ClosedSteps.{typed-whole}
use Rattle.lt_nameless.proofs.BooleanSteps.{rules_keep_booleans}
use Rattle.lt_nameless.proofs.BindingLemmas.{if-true, if-false}
use Rattle.lt_definitions.proofs.TypingLemmas.{both-none, typed-some}

-- the named reading of a typed nameless term

back : (sig : Signature) (n : Nameless) (ty : TypeTree) → nameless_typed sig [] n ≡ Ok ty → nameless [] (named 0 n) ≡ n
back sig n ty e = nameless_of_named n (typed-whole sig [] n ty e)

back-typed : (sig : Signature) (n : Nameless) (ty : TypeTree) → nameless_typed sig [] n ≡ Ok ty → HasType sig [] (named 0 n) ty
back-typed sig n ty e = typed-has sig [] (named 0 n) ty (typed-nameless sig [] (named 0 n) ∙ ap (nameless_typed sig []) (back sig n ty e) ∙ e)

back-sound : (sig : Signature) (n : Nameless) → nameless_fault sig n ≡ None → nameless [] (named 0 n) ≡ n
back-sound sig n e = let h = typed-some (nameless_typed sig [] n) e in back sig n h.0 h.1

-- of lines

abbrev named_rule : Rule Nameless → Rule TermTree
named_rule = rule_map (named 0)

back-rule : (sig : Signature) (line : Rule Nameless) → rule_fault sig (nameless_fault sig) line ≡ None → nameless_rule (named_rule line) ≡ line
back-rule sig (by_assume p) e = ap by_assume (back-sound sig p e)
back-rule sig (by_weaken p i) e = ap (λ (n : Nameless). by_weaken n i) (back-sound sig p e)
back-rule sig (by_refl t) e = ap by_refl (back-sound sig t e)
back-rule sig (by_beta t) e = ap by_beta (back-sound sig t e)
back-rule sig (by_eta t) e = ap by_eta (back-sound sig t e)
back-rule sig (by_impI p i) e = ap (λ (n : Nameless). by_impI n i) (back-sound sig p e)
back-rule sig (by_allE t i) e = ap (λ (n : Nameless). by_allE n i) (back-sound sig t e)
back-rule sig (by_inst x ty t i) e =
    ap (λ (n : Nameless). by_inst x ty n i) (back-sound sig t (both-none (type_fault sig ty) (nameless_fault sig t) e).1)
back-rule sig (by_select p) e = ap by_select (back-sound sig p e)
back-rule sig (by_ccontr p) e = ap by_ccontr (back-sound sig p e)
back-rule sig line e = refl

-- of lists of terms, of sequents and of statements

abbrev Each : {A : Type 0} → (A → Type 0) → List A → Type 0
Each P [] = Unit {0}
Each P (x ∷ xs) = P x × Each P xs

each-of : {A : Type 0} (P : A → Type 0) (xs : List A) → All P xs → Each P xs
each-of P [] h = tt
each-of P (x ∷ xs) h = (h 0 x (omega arith), each-of P xs (λ k d l. h (suc k) d (omega arith)))

of-each : {A : Type 0} (P : A → Type 0) (xs : List A) → Each P xs → All P xs
of-each P [] h k d l = absurd (omega arith)
of-each P (x ∷ xs) h zero d l = h.0
of-each P (x ∷ xs) h (suc k) d l = of-each P xs h.1 k d (omega arith)

each-map : {A B : Type 0} (P : A → Type 0) (Q : B → Type 0) (f : A → B) → ((x : A) → P x → Q (f x)) → (xs : List A) → Each P xs → Each Q (map f xs)
each-map P Q f k [] h = tt
each-map P Q f k (x ∷ xs) h = (k x h.0, each-map P Q f k xs h.1)

-- a map and a way back that undoes it where P holds
map-back : {A B : Type 0} (P : A → Type 0) (f : A → B) (g : B → A) → ((x : A) → P x → g (f x) ≡ x) → (xs : List A) → Each P xs → map g (map f xs) ≡ xs
map-back P f g k [] h = refl
map-back P f g k (x ∷ xs) h = λ i. k x h.0 i ∷ map-back P f g k xs h.1 i

abbrev named_sequent : NamelessSequent → Sequent
named_sequent s = record { hyps = map (named 0) s.hyps; concl = named 0 s.concl }

back-sequent : (sig : Signature) (s : NamelessSequent) → IsBooleanNamelessSequent sig s → nameless_sequent (named_sequent s) ≡ s
back-sequent sig s h =
    let hyps : map (nameless []) (map (named 0) s.hyps) ≡ s.hyps =
    map-back (IsBooleanNameless sig) (named 0) (nameless []) (λ n e. back sig n bool e) s.hyps (each-of (IsBooleanNameless sig) s.hyps h.hyps) in
    λ i. record { hyps = hyps i; concl = back sig s.concl bool h.concl i }

boolean-sequent : (sig : Signature) (s : NamelessSequent) → IsBooleanNamelessSequent sig s → IsBooleanSequent sig (named_sequent s)
boolean-sequent sig s h = record {
  hyps = of-each (IsBoolean sig) (map (named 0) s.hyps)
      (each-map (IsBooleanNameless sig) (IsBoolean sig) (named 0) (λ n e. back-typed sig n bool e) s.hyps (each-of (IsBooleanNameless sig) s.hyps h.hyps));
  concl = back-typed sig s.concl bool h.concl;
}

abbrev IsStated : Signature → Chars × Nameless → Type 0
IsStated sig p = IsBooleanNameless sig p.1

abbrev named_statements : List (Chars × Nameless) → List (Chars × TermTree)
named_statements ps = map (λ p. (p.0, named 0 p.1)) ps

back-statements : (sig : Signature) (ps : List (Chars × Nameless)) → Each (IsStated sig) ps → nameless_statements (named_statements ps) ≡ ps
back-statements sig [] h = refl
back-statements sig (p ∷ ps) h = λ i. (p.0, back sig p.1 bool h.0 i) ∷ back-statements sig ps h.1 i

-- what is found among boolean statements is boolean
each-found : {A : Type 0} (P : A → Type 0) (ps : List (Chars × A)) → Each (λ (p : Chars × A). P p.1) ps → (l : Chars) (v : A) → found l ps ≡ Some v → P v
each-found P [] h l v e = absurd (cc e)
each-found P (p ∷ ps) h l v e = elim (bool_cases (same_name l p.0)) [
  | inl k ↦ let some : Some p.1 ≡ Some v = sym (if-true (same_name l p.0) (Some p.1) (found l ps) k) ∙ e in
      let same : p.1 ≡ v = cc some in subst P same h.0
  | inr k ↦ each-found P ps h.1 l v (sym (if-false (same_name l p.0) (Some p.1) (found l ps) k) ∙ e)
]

-- from named sequents to nameless ones

nameless-boolean : (sig : Signature) (t : TermTree) → IsBoolean sig t → IsBooleanNameless sig (nameless [] t)
nameless-boolean sig t h = sym (typed-nameless sig [] t) ∙ has-typed sig [] t bool h

nameless-sequent-boolean : (sig : Signature) (s : Sequent) → IsBooleanSequent sig s → IsBooleanNamelessSequent sig (nameless_sequent s)
nameless-sequent-boolean sig s h = record {
  hyps = of-each (IsBooleanNameless sig) (map (nameless []) s.hyps)
      (each-map (IsBoolean sig) (IsBooleanNameless sig) (nameless []) (nameless-boolean sig) s.hyps (each-of (IsBoolean sig) s.hyps h.hyps));
  concl = nameless-boolean sig s.concl h.concl;
}

outcome-ok : (o : Outcome) (s : NamelessSequent) → nameless_outcome o ≡ Ok s → (u : Sequent) × (o ≡ Ok u) × (nameless_sequent u ≡ s)
outcome-ok (Ok u) s e = (u, refl, let same : nameless_sequent u ≡ s = cc e in same)
outcome-ok (Err r) s e = absurd (cc e)

pub nameless_rules_keep_booleans : (sig : Signature) (stored : List (Chars × Nameless)) (done : List NamelessSequent) (line : Rule Nameless) (s : NamelessSequent)
    → IsSoundSignature sig → All (λ p. IsBooleanNameless sig p.1) stored → All (IsBooleanNamelessSequent sig) done
    → rule_fault sig (nameless_fault sig) line ≡ None → nameless_step sig stored done line ≡ Ok s → IsBooleanNamelessSequent sig s
nameless_rules_keep_booleans sig stored done line s h n d t e =
    let stated : Each (IsStated sig) stored = each-of (IsStated sig) stored n in
    let goals : Each (IsBooleanNamelessSequent sig) done = each-of (IsBooleanNamelessSequent sig) done d in
    let sound : rule_fault sig (term_fault sig) (named_rule line) ≡ None =
    faults_are_nameless sig (named_rule line) ∙ ap (rule_fault sig (nameless_fault sig)) (back-rule sig line t) ∙ t in
    let same : nameless_outcome (step sig (named_statements stored) (map named_sequent done) (named_rule line)) ≡ Ok s =
    step_is_nameless sig (named_statements stored) (map named_sequent done) (named_rule line) sound
    ∙ (λ i. nameless_step sig (back-statements sig stored stated i)
    (map-back (IsBooleanNamelessSequent sig) named_sequent nameless_sequent (back-sequent sig) done goals i) (back-rule sig line t i))
    ∙ e in
    let u = outcome-ok (step sig (named_statements stored) (map named_sequent done) (named_rule line)) s same in
    let boolean : IsBooleanSequent sig u.0 = rules_keep_booleans sig (named_statements stored) (map named_sequent done) (named_rule line) u.0 h
    (each-found (IsBoolean sig) (named_statements stored)
    (each-map (IsStated sig) (λ (p : Chars × TermTree). IsBoolean sig p.1) (λ (p : Chars × Nameless). (p.0, named 0 p.1)) (λ p k. back-typed sig p.1 bool k) stored stated))
    (of-each (IsBooleanSequent sig) (map named_sequent done)
    (each-map (IsBooleanNamelessSequent sig) (IsBooleanSequent sig) named_sequent (boolean-sequent sig) done goals)) sound u.1 in
    subst (IsBooleanNamelessSequent sig) u.2 (nameless-sequent-boolean sig u.0 boolean)
