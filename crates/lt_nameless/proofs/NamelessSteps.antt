-- A rule over named terms gives what it gives over their nameless forms.
use Rattle.std.proofs.Common.{subst, ◌≡◌, ℕ, List, [], ◌∷◌, Bool, true, false, ◌&&◌, not, map, Option, Some, None, refl, sym, ◌∙◌, ap}
use Rattle.std.specs.Result.{result_err}
use Rattle.lt_definitions.specs.Types.{Chars, found, TypeTree, TypeMap, bool, fun}
use Rattle.lt_definitions.specs.Terms.{TermTree, application, equation, implies, for_all, term_instance}
use Rattle.lt_definitions.specs.Typing.{Signature, type_fault, earlier}
use Rattle.lt_definitions.specs.Binding.{replaced, closed_over}
use Rattle.lt_definitions.specs.Rules.{Sequent, Rule, by_assume, by_weaken, by_refl, by_sym, by_trans, by_cong, by_abs, by_beta, by_eta, by_eqmp, by_impI, by_mp, by_allI, by_allE, by_iff, by_inst, by_tinst, by_select, by_ccontr, by_thm, Outcome, gives, where_holds, with_found, with_line, with_lines, line_at, as_equation, as_implication, as_forall, at_argument, beta_of, eta_of, type_of, predicate_over, joined_type, selection, step}
use Rattle.lt_definitions.specs.declared.reason.Reason.{Reason}
use Rattle.lt_definitions.specs.declared.reason.Reason.TheVariants.{MissingLine, NotEquation, TypeDiffers, NotRedex, NotImplication, NotForall, UnknownLabel}
use Rattle.lt_definitions.specs.Derivations.{rule_fault, term_fault}
use Rattle.lt_nameless.specs.Nameless.{Nameless, nameless, NamelessSequent, nameless_sequent}
use Rattle.lt_nameless.specs.NamelessRules.{nameless_type_of, nameless_equation, nameless_for_all, nameless_union, NamelessOutcome, nameless_gives, nameless_outcome, nameless_statements, nameless_rule, nameless_fault, nameless_step}
use Rattle.lt_definitions.specs.Rules.{Rule}
use Rattle.lt_nameless.proofs.BindingLemmas.{IsScoped, closed-nameless, replaced-nameless, instance-nameless}
use Rattle.lt_nameless.proofs.NamelessTyping.{all_nameless, in_option, sides, both_sides, typed_side, scoped-of, typed-of, has_type-nameless, type_of-nameless, alpha-same, union-nameless, without-nameless, free-in, replaced-in, instance-in, line-nameless, found-nameless, equation-nameless, implication-nameless, forall-nameless, at-nameless, beta-nameless, eta-nameless, selection-nameless, typed-nameless}
use Rattle.lt_definitions.proofs.TypingLemmas.{both-none}

give : (hs : List TermTree) (gs : List Nameless) (p : TermTree) (n : Nameless) → all_nameless hs ≡ gs → nameless [] p ≡ n
    → nameless_outcome (gives hs p) ≡ nameless_gives gs n
give hs gs p n e f = λ i. nameless_gives (e i) (f i)

through_found : {A B : Type 0} (r : Reason) (g : A → B) (o : Option A) (q : Option B) (f : A → Outcome) (k : B → NamelessOutcome)
    → in_option g o ≡ q → ((x : A) → nameless_outcome (f x) ≡ k (g x)) → nameless_outcome (with_found r o f) ≡ with_found r q k
through_found r g None q f k e h = ap (λ p. with_found r p k) e
through_found r g (Some x) q f k e h = h x ∙ ap (λ p. with_found r p k) e

through_holds : (r : Reason) (b c : Bool) (o : Outcome) (q : NamelessOutcome) → b ≡ c → nameless_outcome o ≡ q
    → nameless_outcome (where_holds b r o) ≡ where_holds c r q
through_holds r true c o q e h = h ∙ ap (λ d. where_holds d r q) e
through_holds r false c o q e h = ap (λ d. where_holds d r q) e

through_line : (done : List Sequent) (i : ℕ) (f : Sequent → Outcome) (k : NamelessSequent → NamelessOutcome)
    → ((s : Sequent) → nameless_outcome (f s) ≡ k (nameless_sequent s))
    → nameless_outcome (with_line done i f) ≡ with_line (map nameless_sequent done) i k
through_line done i f k h = through_found MissingLine nameless_sequent (line_at done i) (line_at (map nameless_sequent done) i) f k (line-nameless done i) h

through_lines : (done : List Sequent) (i j : ℕ) (f : Sequent → Sequent → Outcome) (k : NamelessSequent → NamelessSequent → NamelessOutcome)
    → ((s u : Sequent) → nameless_outcome (f s u) ≡ k (nameless_sequent s) (nameless_sequent u))
    → nameless_outcome (with_lines done i j f) ≡ with_lines (map nameless_sequent done) i j k
through_lines done i j f k h = through_line done i (λ s. with_line done j (λ u. f s u)) (λ s. with_line (map nameless_sequent done) j (λ u. k s u))
    (λ s. through_line done j (f s) (k (nameless_sequent s)) (h s))

pub step_is_nameless : (sig : Signature) (named : List (Chars × TermTree)) (done : List Sequent) (line : Rule TermTree) → rule_fault sig (term_fault sig) line ≡ None
    → nameless_outcome (step sig named done line) ≡ nameless_step sig (nameless_statements named) (map nameless_sequent done) (nameless_rule line)
step_is_nameless sig named done (by_assume p) t = through_holds _ _ _ _ _ (has_type-nameless sig p bool) refl
step_is_nameless sig named done (by_weaken p i) t = through_line done i _ _ (λ s.
    through_holds _ _ _ _ _ (has_type-nameless sig p bool) (give _ _ s.concl _ (union-nameless s.hyps (p ∷ [])) refl))
step_is_nameless sig named done (by_refl p) t =
    give [] [] (equation (type_of sig p) p p) _ refl (ap (λ ty. nameless_equation ty (nameless [] p) (nameless [] p)) (type_of-nameless sig p))
step_is_nameless sig named done (by_sym i) t = through_line done i _ _ (λ s.
    through_found NotEquation sides (as_equation s.concl) _ _ _ (equation-nameless s.concl) (λ e. refl))
step_is_nameless sig named done (by_trans i j) t = through_lines done i j _ _ (λ s u.
    through_found NotEquation sides (as_equation s.concl) _ _ _ (equation-nameless s.concl) (λ e.
    through_found NotEquation sides (as_equation u.concl) _ _ _ (equation-nameless u.concl) (λ d.
    through_holds _ _ _ _ _ (alpha-same e.2 d.1) (give _ _ (equation e.0 e.1 d.2) _ (union-nameless s.hyps u.hyps) refl))))
step_is_nameless sig named done (by_cong i j) t = through_lines done i j _ _ (λ s u.
    through_found NotEquation sides (as_equation s.concl) _ _ _ (equation-nameless s.concl) (λ e.
    through_found NotEquation sides (as_equation u.concl) _ _ _ (equation-nameless u.concl) (λ d.
    through_found TypeDiffers (λ ty. ty) (joined_type e.0 d.0) (joined_type e.0 d.0) _ _ (in_itself (joined_type e.0 d.0)) (λ ty.
    give _ _ (equation ty (application e.1 d.1) (application e.2 d.2)) _ (union-nameless s.hyps u.hyps) refl)))) where
      in_itself : (o : Option TypeTree) → in_option (λ (ty : TypeTree). ty) o ≡ o
      in_itself None = refl
      in_itself (Some ty) = refl
step_is_nameless sig named done (by_abs x ty i) t = through_line done i _ _ (λ s.
    through_found NotEquation sides (as_equation s.concl) _ _ _ (equation-nameless s.concl) (λ e.
    through_holds _ _ _ _ _ (ap not (free-in x ty s.hyps)) (give _ _ (equation (fun ty e.0) (closed_over x ty e.1) (closed_over x ty e.2)) _ refl
    (λ k. nameless_equation (fun ty e.0) (closed-nameless x ty e.1 k) (closed-nameless x ty e.2 k)))))
step_is_nameless sig named done (by_beta p) t =
    let h = typed-of sig p t in
    through_found NotRedex (nameless []) (beta_of p) _ _ _ (beta-nameless sig p h.0 h.1) (λ b.
    give [] [] (equation (type_of sig p) p b) _ refl (ap (λ ty. nameless_equation ty (nameless [] p) (nameless [] b)) (type_of-nameless sig p)))
step_is_nameless sig named done (by_eta p) t =
    through_found NotRedex (nameless []) (eta_of p) _ _ _ (eta-nameless p) (λ f.
    give [] [] (equation (type_of sig p) p f) _ refl (ap (λ ty. nameless_equation ty (nameless [] p) (nameless [] f)) (type_of-nameless sig p)))
step_is_nameless sig named done (by_eqmp i j) t = through_lines done i j _ _ (λ s u.
    through_found NotEquation sides (as_equation s.concl) _ _ _ (equation-nameless s.concl) (λ e.
    through_holds _ _ _ _ _ (alpha-same e.1 u.concl) (give _ _ e.2 _ (union-nameless s.hyps u.hyps) refl)))
step_is_nameless sig named done (by_impI p i) t = through_line done i _ _ (λ s.
    through_holds _ _ _ _ _ (has_type-nameless sig p bool) (give _ _ (implies p s.concl) _ (without-nameless p s.hyps) refl))
step_is_nameless sig named done (by_mp i j) t = through_lines done i j _ _ (λ s u.
    through_found NotImplication both_sides (as_implication s.concl) _ _ _ (implication-nameless s.concl) (λ e.
    through_holds _ _ _ _ _ (alpha-same e.0 u.concl) (give _ _ e.1 _ (union-nameless s.hyps u.hyps) refl)))
step_is_nameless sig named done (by_allI x ty i) t = through_line done i _ _ (λ s.
    through_holds _ _ _ _ _ (ap not (free-in x ty s.hyps)) (give _ _ (for_all ty (closed_over x ty s.concl)) _ refl
    (ap (nameless_for_all ty) (closed-nameless x ty s.concl))))
step_is_nameless sig named done (by_allE p i) t = through_line done i _ _ (λ s.
    through_found NotForall typed_side (as_forall s.concl) _ _ _ (forall-nameless s.concl) (λ a.
    through_holds _ _ _ _ _ (has_type-nameless sig p a.0) (give _ _ (at_argument a.1 p) _ refl (at-nameless a.1 p (scoped-of sig p t)))))
step_is_nameless sig named done (by_iff i j) t = through_lines done i j _ _ (λ s u.
    through_found NotImplication both_sides (as_implication s.concl) _ _ _ (implication-nameless s.concl) (λ e.
    through_found NotImplication both_sides (as_implication u.concl) _ _ _ (implication-nameless u.concl) (λ d.
    through_holds _ _ _ _ _ (λ k. alpha-same e.0 d.1 k && alpha-same e.1 d.0 k)
    (give _ _ (equation bool e.0 e.1) _ (union-nameless s.hyps u.hyps) refl))))
step_is_nameless sig named done (by_inst x ty p i) t =
    let h = both-none (type_fault sig ty) (term_fault sig p) t in
    let scoped : IsScoped p = scoped-of sig p h.1 in
    through_line done i _ _ (λ s.
    through_holds _ _ _ _ _ (has_type-nameless sig p ty) (give _ _ (replaced x ty p s.concl) _
    (union-nameless [] (map (replaced x ty p) s.hyps) ∙ ap (nameless_union []) (replaced-in x ty p s.hyps scoped))
    (replaced-nameless x ty p [] s.concl scoped)))
step_is_nameless sig named done (by_tinst a ty i) t = through_line done i _ _ (λ s. let m : TypeMap = (a, ty) ∷ [] in
    give _ _ (term_instance m s.concl) _
    (union-nameless [] (map (term_instance m) s.hyps) ∙ ap (nameless_union []) (instance-in m s.hyps)) (instance-nameless m [] s.concl))
step_is_nameless sig named done (by_select p) t =
    through_found TypeDiffers (λ ty. ty) (predicate_over (type_of sig p)) (predicate_over (nameless_type_of sig (nameless [] p))) _ _
    (in_itself (predicate_over (type_of sig p)) ∙ ap predicate_over (type_of-nameless sig p)) (λ ty.
    give [] [] (selection ty p) _ refl (selection-nameless ty p (scoped-of sig p t))) where
      in_itself : (o : Option TypeTree) → in_option (λ (ty : TypeTree). ty) o ≡ o
      in_itself None = refl
      in_itself (Some ty) = refl
step_is_nameless sig named done (by_ccontr p) t = through_holds _ _ _ _ _ (has_type-nameless sig p bool) refl
step_is_nameless sig named done (by_thm l) t =
    through_found UnknownLabel (nameless []) (found l named) _ _ _ (found-nameless l named) (λ p. refl)

fault-nameless : (sig : Signature) (t : TermTree) → term_fault sig t ≡ nameless_fault sig (nameless [] t)
fault-nameless sig t = ap result_err (typed-nameless sig [] t)

pub faults_are_nameless : (sig : Signature) (line : Rule TermTree) → rule_fault sig (term_fault sig) line ≡ rule_fault sig (nameless_fault sig) (nameless_rule line)
faults_are_nameless sig (by_assume p) = fault-nameless sig p
faults_are_nameless sig (by_weaken p i) = fault-nameless sig p
faults_are_nameless sig (by_refl p) = fault-nameless sig p
faults_are_nameless sig (by_beta p) = fault-nameless sig p
faults_are_nameless sig (by_eta p) = fault-nameless sig p
faults_are_nameless sig (by_impI p i) = fault-nameless sig p
faults_are_nameless sig (by_allE p i) = fault-nameless sig p
faults_are_nameless sig (by_inst x ty p i) = ap (earlier (type_fault sig ty)) (fault-nameless sig p)
faults_are_nameless sig (by_select p) = fault-nameless sig p
faults_are_nameless sig (by_ccontr p) = fault-nameless sig p
faults_are_nameless sig line = refl

-- what is said of the nameless step holds of Step at each named reading
pub for_each_reading : (P : NamelessOutcome → Type 0) (sig : Signature) (statements : List (Chars × Nameless)) (goals : List NamelessSequent) (rule : Rule Nameless)
    → rule_fault sig (nameless_fault sig) rule ≡ None → P (nameless_step sig statements goals rule)
    → (named : List (Chars × TermTree)) (done : List Sequent) (line : Rule TermTree)
    → nameless_statements named ≡ statements → map nameless_sequent done ≡ goals → nameless_rule line ≡ rule
    → P (nameless_outcome (step sig named done line))
for_each_reading P sig statements goals rule t h named done line e f g =
    let sound : rule_fault sig (term_fault sig) line ≡ None = faults_are_nameless sig line ∙ ap (rule_fault sig (nameless_fault sig)) g ∙ t in
    let same : nameless_step sig statements goals rule ≡ nameless_outcome (step sig named done line) =
    (λ i. nameless_step sig (sym e i) (sym f i) (sym g i)) ∙ sym (step_is_nameless sig named done line sound) in
    subst P same h
