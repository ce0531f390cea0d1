-- Outcomes that are alpha-equal are those with one nameless form.
use Rattle.std.proofs.Common.{◌≡◌, ◌↔◌, List, [], ◌∷◌, Ok, Err, map, refl, ap}
use Rattle.lt_definitions.specs.Terms.{TermTree}
use Rattle.lt_definitions.specs.Rules.{Outcome, AreAlphaEqual, IsAlphaEqualOutcome}
use Rattle.lt_definitions.specs.declared.reason.Reason.{Reason}
use Rattle.lt_nameless.specs.Nameless.{nameless, NamelessSequent, nameless_sequent}
use Rattle.lt_nameless.specs.NamelessRules.{NamelessOutcome, nameless_gives, nameless_outcome}
use Rattle.lt_nameless.proofs.Alphas.{alpha-nameless, nameless-alpha}

pub equal-forms : (hs ks : List TermTree) → AreAlphaEqual hs ks → map (nameless []) hs ≡ map (nameless []) ks
equal-forms [] [] h = refl
equal-forms (s ∷ hs) (t ∷ ks) h = λ i. alpha-nameless [] s t h.0 i ∷ equal-forms hs ks h.1 i
equal-forms hs ks h = absurd h

forms-equal : (hs ks : List TermTree) → map (nameless []) hs ≡ map (nameless []) ks → AreAlphaEqual hs ks
forms-equal [] [] e = tt
forms-equal (s ∷ hs) (t ∷ ks) e =
    let first : nameless [] s ≡ nameless [] t = cc e in
    let later : map (nameless []) hs ≡ map (nameless []) ks = cc e in
    (nameless-alpha [] s t first, forms-equal hs ks later)
forms-equal hs ks e = absurd (cc e)

outcome-forms : (a b : Outcome) → IsAlphaEqualOutcome a b → nameless_outcome a ≡ nameless_outcome b
outcome-forms (Ok s) (Ok u) h = λ i. nameless_gives (equal-forms s.hyps u.hyps h.0 i) (alpha-nameless [] s.concl u.concl h.1 i)
outcome-forms (Err r) (Err q) h = ap (λ (v : Reason). nameless_outcome (Err v)) h
outcome-forms a b h = absurd h

abbrev ok_form : NamelessSequent → NamelessOutcome
ok_form s = Ok s

ok-inj : (s u : NamelessSequent) → ok_form s ≡ ok_form u → s ≡ u
ok-inj s u e = cc e

abbrev no_form : Reason → NamelessOutcome
no_form r = Err r

no-inj : (r q : Reason) → no_form r ≡ no_form q → r ≡ q
no-inj r q e = cc e

forms-outcome : (a b : Outcome) → nameless_outcome a ≡ nameless_outcome b → IsAlphaEqualOutcome a b
forms-outcome (Ok s) (Ok u) e =
    let same : nameless_sequent s ≡ nameless_sequent u = ok-inj (nameless_sequent s) (nameless_sequent u) e in
    (forms-equal s.hyps u.hyps (ap (λ v. v.hyps) same), nameless-alpha [] s.concl u.concl (ap (λ v. v.concl) same))
forms-outcome (Err r) (Err q) e = no-inj r q e
forms-outcome (Ok s) (Err q) e = absurd (cc e)
forms-outcome (Err r) (Ok u) e = absurd (cc e)

pub outcomes_are_nameless : (a b : Outcome) → IsAlphaEqualOutcome a b ↔ (nameless_outcome a ≡ nameless_outcome b)
outcomes_are_nameless a b = (outcome-forms a b, forms-outcome a b)
