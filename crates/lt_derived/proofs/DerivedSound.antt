-- Lines that were derived are boolean.
use Rattle.std.proofs.Common.{◌≡◌, ℕ, zero, suc, ◌<◌, List, length, take, slice_get, get_or, Some, None, Ok, Option, refl, sym, ◌∙◌, ap, subst, arith}
use Rattle.std.specs.List.{All}
use Rattle.std.specs.Prelude.{option_map}
use Rattle.std.proofs.lemmas.List.{map-append, length-take-le, get_or-take}
use Rattle.std.proofs.lemmas.Option.{slice_get-map, slice_get_within, slice_get-get_or}
use Rattle.lt_definitions.specs.Types.{Chars, found, row}
use Rattle.lt_definitions.specs.Typing.{Signature}
use Rattle.lt_definitions.specs.Rules.{Rule, by_assume, by_weaken, by_refl, by_sym, by_trans, by_cong, by_abs, by_beta, by_eta, by_eqmp, by_impI, by_mp, by_allI, by_allE, by_iff, by_inst, by_tinst, by_select, by_ccontr, by_thm, with_found}
use Rattle.lt_definitions.specs.Derivations.{rule_fault}
use Rattle.lt_definitions.specs.declared.reason.Reason.TheVariants.{UnknownLabel}
use Rattle.lt_nameless.specs.Booleans.{IsSoundSignature}
use Rattle.lt_nameless.specs.Nameless.{Nameless, NamelessSequent}
use Rattle.lt_nameless.specs.NamelessRules.{nameless_fault, nameless_step, IsBooleanNameless, IsBooleanNamelessSequent}
use Rattle.lt_nameless.proofs.LaterItems.{found-append}
use Rattle.lt_nameless.proofs.NamelessBooleans.{nameless_rules_keep_booleans}
use Rattle.lt_store.specs.Trees.{tree_at}
use Rattle.lt_kernel.specs.declared.sequent.Step.{Step}
use Rattle.lt_kernel.specs.Derived.{GoesOn, AreDerived}
use Rattle.lt_kernel.specs.Lines.{rule_at}
use Rattle.lt_kernel.specs.Sequents.{sequent_at, statements_at}
use Rattle.lt_kernel.specs.State.{State, sequents, statements}
use Rattle.lt_kernel.specs.Growing.{IsSound}
use Rattle.lt_programs.specs.Programs.{theorem}
use Rattle.lt_programs.proofs.Covering.{Covers, types-covers, rule-covers, step-covers}
use Rattle.lt_programs.proofs.Declared.{given-of, of-given}

-- declarations that go on cover those before
covers-front : (small sig : Signature) → GoesOn small.types sig.types → GoesOn small.consts sig.consts → Covers small sig
covers-front small sig t n = record {
  types = types;
  consts = λ c ts ty e. let g = given-of small c ts ty e in of-given sig c ts ty (record {
    declared = g.declared;
    is = ap (found c) n.1 ∙ found-append c small.consts n.0 g.declared g.is;
    count = g.count;
    sound = types-covers small sig types (row ts) g.sound;
    gives = g.gives;
  });
}
  where
    types : (c : Chars) (k : ℕ) → found c small.types ≡ Some k → found c sig.types ≡ Some k
    types c k e = ap (found c) t.1 ∙ found-append c small.types t.0 k e

-- what a rule gives it gives where more is declared and stated
module _ (small sig : Signature) (h : Covers small sig) (named more : List (Chars × Nameless)) (n : (l : Chars) (p : Nameless) → found l named ≡ Some p → found l more ≡ Some p)
    (done : List NamelessSequent) (q : NamelessSequent) where
  step-later : (r : Rule Nameless) → rule_fault small (nameless_fault small) r ≡ None → nameless_step small named done r ≡ Ok q → nameless_step sig more done r ≡ Ok q
  step-later (by_assume p) w e = step-covers small sig h done (by_assume p) w ∙ e
  step-later (by_weaken p i) w e = step-covers small sig h done (by_weaken p i) w ∙ e
  step-later (by_refl t) w e = step-covers small sig h done (by_refl t) w ∙ e
  step-later (by_sym i) w e = step-covers small sig h done (by_sym i) w ∙ e
  step-later (by_trans i j) w e = step-covers small sig h done (by_trans i j) w ∙ e
  step-later (by_cong i j) w e = step-covers small sig h done (by_cong i j) w ∙ e
  step-later (by_abs x ty i) w e = step-covers small sig h done (by_abs x ty i) w ∙ e
  step-later (by_beta t) w e = step-covers small sig h done (by_beta t) w ∙ e
  step-later (by_eta t) w e = step-covers small sig h done (by_eta t) w ∙ e
  step-later (by_eqmp i j) w e = step-covers small sig h done (by_eqmp i j) w ∙ e
  step-later (by_impI p i) w e = step-covers small sig h done (by_impI p i) w ∙ e
  step-later (by_mp i j) w e = step-covers small sig h done (by_mp i j) w ∙ e
  step-later (by_allI x ty i) w e = step-covers small sig h done (by_allI x ty i) w ∙ e
  step-later (by_allE t i) w e = step-covers small sig h done (by_allE t i) w ∙ e
  step-later (by_iff i j) w e = step-covers small sig h done (by_iff i j) w ∙ e
  step-later (by_inst x ty t i) w e = step-covers small sig h done (by_inst x ty t i) w ∙ e
  step-later (by_tinst a ty i) w e = step-covers small sig h done (by_tinst a ty i) w ∙ e
  step-later (by_select p) w e = step-covers small sig h done (by_select p) w ∙ e
  step-later (by_ccontr p) w e = step-covers small sig h done (by_ccontr p) w ∙ e
  step-later (by_thm l) w e = by (found l named) refl e
    where
      by : (o : Option Nameless) → found l named ≡ o → with_found UnknownLabel o (λ p. Ok (theorem p)) ≡ Ok q → with_found UnknownLabel (found l more) (λ p. Ok (theorem p)) ≡ Ok q
      by None d k = absurd (cc k)
      by (Some p) d k = ap (λ o. with_found UnknownLabel o (λ p. Ok (theorem p))) (n l p d) ∙ k

module _ (s : State) (h : IsSoundSignature s.signature) (b : All (λ (p : Chars × Nameless). IsBooleanNameless s.signature p.1) (statements s)) (d : AreDerived s) where
  abbrev Good : NamelessSequent → Type 0
  Good q = IsBooleanNamelessSequent s.signature q

  -- the step at a place
  step-at : (k : ℕ) (q : NamelessSequent) → slice_get (sequents s) k ≡ Some q → (step : Step) × (slice_get s.steps k ≡ Some step) × (q ≡ sequent_at s.nodes step.sequent)
  step-at k q e = by (slice_get s.steps k) refl (sym (slice_get-map (λ (t : Step). sequent_at s.nodes t.sequent) s.steps k) ∙ e)
    where
      by : (o : Option Step) → slice_get s.steps k ≡ o → option_map (λ (t : Step). sequent_at s.nodes t.sequent) o ≡ Some q
          → (step : Step) × (slice_get s.steps k ≡ Some step) × (q ≡ sequent_at s.nodes step.sequent)
      by None f g = absurd (cc g)
      by (Some t) f g = (t, f, sym (cc g))

  line-good : (k : ℕ) (q : NamelessSequent) → slice_get (sequents s) k ≡ Some q → All Good (take k (sequents s)) → Good q
  line-good k q e before =
      let at = step-at k q e in
      let one = d k at.0 at.1 in
      let covers = covers-front one.signature s.signature one.types one.consts in
      let rule = rule_at s.nodes at.0.line in
      let named : (l : Chars) (p : Nameless) → found l (statements_at s.nodes one.named) ≡ Some p → found l (statements s) ≡ Some p =
      λ l p f. ap (found l) (ap (statements_at s.nodes) one.statements.1 ∙ map-append (λ (v : Chars × ℕ). (v.0, tree_at s.nodes v.1)) one.named one.statements.0)
      ∙ found-append l (statements_at s.nodes one.named) (statements_at s.nodes one.statements.0) p f in
      nameless_rules_keep_booleans s.signature (statements s) (take k (sequents s)) rule q h b before
      (rule-covers one.signature s.signature covers rule one.good.typed)
      (step-later one.signature s.signature covers (statements_at s.nodes one.named) (statements s) named (take k (sequents s)) q rule one.good.typed
      (one.gives ∙ ap (λ (v : NamelessSequent). Ok v) (sym at.2)))

  good-below : (n k : ℕ) → k < n → (q : NamelessSequent) → slice_get (sequents s) k ≡ Some q → Good q
  good-below zero k l q e = absurd (omega (arith, l))
  good-below (suc n) k l q e = line-good k q e (λ j f w.
      let within = slice_get_within (sequents s) k q e in
      let many = length-take-le k (sequents s) (omega (arith, within)) in
      subst Good (sym (get_or-take k (sequents s) j f (omega (arith, w, many))))
      (good-below n j (omega (arith, w, many, l)) (get_or (sequents s) j f) (slice_get-get_or (sequents s) j f (omega (arith, w, many, within)))))

  pub derived-sound : IsSound s
  derived-sound = record {
    signature = h;
    statements = b;
    lines = λ j f w. good-below (length (sequents s)) j w (get_or (sequents s) j f) (slice_get-get_or (sequents s) j f w);
  }
