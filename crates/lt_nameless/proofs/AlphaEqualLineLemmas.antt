-- Alpha-equal sequents, statements and lines have the same nameless forms.
use Rattle.std.proofs.Common.{◌≡◌, List, [], ◌∷◌, map, refl, sym, ◌∙◌}
use Rattle.lt_definitions.specs.Types.{Chars}
use Rattle.lt_definitions.specs.Terms.{TermTree}
use Rattle.lt_definitions.specs.Rules.{Sequent, Rule, terms_of, by_assume, by_weaken, by_refl, by_sym, by_trans, by_cong, by_abs, by_beta, by_eta, by_eqmp, by_impI, by_mp, by_allI, by_allE, by_iff, by_inst, by_tinst, by_select, by_ccontr, by_thm}
use Rattle.lt_nameless.specs.Nameless.{Nameless, nameless_bound, nameless, nameless_sequent}
use Rattle.lt_nameless.specs.NamelessRules.{nameless_statements, nameless_rule}
use Rattle.lt_nameless.specs.AlphaEqualLines.{AreAlphaEqualSequents, AreAlphaEqualStatements, without_terms, AreAlphaEqualLines}
use Rattle.lt_nameless.proofs.Alphas.{alpha-nameless}
use Rattle.lt_nameless.proofs.Outcomes.{equal-forms}

pub equal-sequents : (ss us : List Sequent) → AreAlphaEqualSequents ss us → map nameless_sequent ss ≡ map nameless_sequent us
equal-sequents [] [] h = refl
equal-sequents (s ∷ ss) (u ∷ us) h =
    let hyps : map (nameless []) s.hyps ≡ map (nameless []) u.hyps = equal-forms s.hyps u.hyps h.0 in
    let concl : nameless [] s.concl ≡ nameless [] u.concl = alpha-nameless [] s.concl u.concl h.1 in
    λ i. record { hyps = hyps i; concl = concl i } ∷ equal-sequents ss us h.2 i
equal-sequents ss us h = absurd h

pub equal-statements : (ps qs : List (Chars × TermTree)) → AreAlphaEqualStatements ps qs → nameless_statements ps ≡ nameless_statements qs
equal-statements [] [] h = refl
equal-statements (p ∷ ps) (q ∷ qs) h =
    λ i. (h.0 i, alpha-nameless [] p.1 q.1 h.1 i) ∷ equal-statements ps qs h.2 i
equal-statements ps qs h = absurd h

-- a rule is what it is without its terms, and these

abbrev first : List Nameless → Nameless
first [] = nameless_bound 0
first (n ∷ ns) = n

abbrev filled : Rule (Unit {0}) → List Nameless → Rule Nameless
filled (by_assume u) ns = by_assume (first ns)
filled (by_weaken u i) ns = by_weaken (first ns) i
filled (by_refl u) ns = by_refl (first ns)
filled (by_sym i) ns = by_sym i
filled (by_trans i j) ns = by_trans i j
filled (by_cong i j) ns = by_cong i j
filled (by_abs x ty i) ns = by_abs x ty i
filled (by_beta u) ns = by_beta (first ns)
filled (by_eta u) ns = by_eta (first ns)
filled (by_eqmp i j) ns = by_eqmp i j
filled (by_impI u i) ns = by_impI (first ns) i
filled (by_mp i j) ns = by_mp i j
filled (by_allI x ty i) ns = by_allI x ty i
filled (by_allE u i) ns = by_allE (first ns) i
filled (by_iff i j) ns = by_iff i j
filled (by_inst x ty u i) ns = by_inst x ty (first ns) i
filled (by_tinst a ty i) ns = by_tinst a ty i
filled (by_select u) ns = by_select (first ns)
filled (by_ccontr u) ns = by_ccontr (first ns)
filled (by_thm l) ns = by_thm l

filled-again : (line : Rule Nameless) → filled (without_terms line) (terms_of line) ≡ line
filled-again (by_assume p) = refl
filled-again (by_weaken p i) = refl
filled-again (by_refl t) = refl
filled-again (by_sym i) = refl
filled-again (by_trans i j) = refl
filled-again (by_cong i j) = refl
filled-again (by_abs x ty i) = refl
filled-again (by_beta t) = refl
filled-again (by_eta t) = refl
filled-again (by_eqmp i j) = refl
filled-again (by_impI p i) = refl
filled-again (by_mp i j) = refl
filled-again (by_allI x ty i) = refl
filled-again (by_allE t i) = refl
filled-again (by_iff i j) = refl
filled-again (by_inst x ty t i) = refl
filled-again (by_tinst a ty i) = refl
filled-again (by_select p) = refl
filled-again (by_ccontr p) = refl
filled-again (by_thm l) = refl

without-terms-of : (line : Rule TermTree) → without_terms (nameless_rule line) ≡ without_terms line
without-terms-of (by_assume p) = refl
without-terms-of (by_weaken p i) = refl
without-terms-of (by_refl t) = refl
without-terms-of (by_sym i) = refl
without-terms-of (by_trans i j) = refl
without-terms-of (by_cong i j) = refl
without-terms-of (by_abs x ty i) = refl
without-terms-of (by_beta t) = refl
without-terms-of (by_eta t) = refl
without-terms-of (by_eqmp i j) = refl
without-terms-of (by_impI p i) = refl
without-terms-of (by_mp i j) = refl
without-terms-of (by_allI x ty i) = refl
without-terms-of (by_allE t i) = refl
without-terms-of (by_iff i j) = refl
without-terms-of (by_inst x ty t i) = refl
without-terms-of (by_tinst a ty i) = refl
without-terms-of (by_select p) = refl
without-terms-of (by_ccontr p) = refl
without-terms-of (by_thm l) = refl

terms-of : (line : Rule TermTree) → terms_of (nameless_rule line) ≡ map (nameless []) (terms_of line)
terms-of (by_assume p) = refl
terms-of (by_weaken p i) = refl
terms-of (by_refl t) = refl
terms-of (by_sym i) = refl
terms-of (by_trans i j) = refl
terms-of (by_cong i j) = refl
terms-of (by_abs x ty i) = refl
terms-of (by_beta t) = refl
terms-of (by_eta t) = refl
terms-of (by_eqmp i j) = refl
terms-of (by_impI p i) = refl
terms-of (by_mp i j) = refl
terms-of (by_allI x ty i) = refl
terms-of (by_allE t i) = refl
terms-of (by_iff i j) = refl
terms-of (by_inst x ty t i) = refl
terms-of (by_tinst a ty i) = refl
terms-of (by_select p) = refl
terms-of (by_ccontr p) = refl
terms-of (by_thm l) = refl

pub equal-lines : (line also : Rule TermTree) → AreAlphaEqualLines line also → nameless_rule line ≡ nameless_rule also
equal-lines line also h =
    let shapes : without_terms (nameless_rule line) ≡ without_terms (nameless_rule also) =
    without-terms-of line ∙ h.0 ∙ sym (without-terms-of also) in
    let terms : terms_of (nameless_rule line) ≡ terms_of (nameless_rule also) =
    terms-of line ∙ equal-forms (terms_of line) (terms_of also) h.1 ∙ sym (terms-of also) in
    sym (filled-again (nameless_rule line)) ∙ (λ i. filled (shapes i) (terms i)) ∙ filled-again (nameless_rule also)
