-- What a derivation gives along an application and along an abstraction.
use Rattle.std.proofs.Common.{◌≡◌, List, [], ◌∷◌, Bool, true, false, ◌&&◌, ◌||◌, not, Ok, Some, None, refl, sym, ◌∙◌, ap}
use Rattle.std.specs.List.{list_any}
use Rattle.std.specs.Result.{result_unwrap_or}
use Rattle.std.proofs.lemmas.Bool.{cond-true, cond-false, and_parts, and_from}
use Rattle.lt_definitions.specs.Types.{Chars, same_name, found, TypeTree, bool, fun, same_type}
use Rattle.lt_definitions.specs.Typing.{Signature, unless, with_ok, type_fault}
use Rattle.lt_definitions.specs.Rules.{with_found}
use Rattle.lt_definitions.specs.declared.reason.Reason.TheVariants.{MiddleDiffers, UnknownLabel}
use Rattle.lt_definitions.proofs.SameNames.{true-name, type-refl}
use Rattle.lt_definitions.proofs.RuleLemmas.{found-on, holds-on}
use Rattle.lt_nameless.specs.Nameless.{Nameless, nameless_free, nameless_bound, nameless_loose, nameless_constant, nameless_application, nameless_abstraction, NamelessSequent}
use Rattle.lt_nameless.specs.NamelessRules.{NamelessOutcome, nameless_type_of, nameless_has_type, nameless_has_free, nameless_implies, nameless_for_all, nameless_union, nameless_without, abstracted, discharged, generalised, detached}
use Rattle.lt_nameless.proofs.NamelessClosings.{closed-same, closed-gone, closed-other}
use Rattle.lt_programs.specs.Programs.{theorem, at_each, statement_at, named_at, paired}
use Rattle.lt_programs.specs.TypedTerms.{IsOfType}
use Rattle.lt_programs.proofs.Filled.{at-each-filled}
use Rattle.lt_programs.proofs.TypedTermLemmas.{has, application-of, closed-of}
use Rattle.lt_programs.proofs.ConnectiveLemmas.{detached-is}
use Rattle.lt_relating.specs.TypedRelations.{TypedRelation, relation_type, related, rel_fun, relator_types, relating, has_no_free, IsRelation}
use Rattle.lt_relating.specs.RelatorLaws.{relator_names, results_related, application_body, application_law, related_throughout, abstraction_body, abstraction_law}
use Rattle.lt_relating.specs.RelatedSteps.{Binding, variables_related, closed, at_variable, expanded, closed_over_both, as_related, as_applied, applied_by, abstracted_by}

-- ---- what has a free variable

pub either-false : (a b : Bool) → a ≡ false → b ≡ false → (a || b) ≡ false
either-false a b e f = ap (λ c. c || b) e ∙ f

-- a term without free variables doesn't have this one
pub none-free : (x : Chars) (ty : TypeTree) (t : Nameless) → has_no_free t ≡ true → nameless_has_free x ty t ≡ false
none-free x ty (nameless_free y u) e = absurd (cc e)
none-free x ty (nameless_bound i) e = refl
none-free x ty (nameless_loose y) e = refl
none-free x ty (nameless_constant c ts) e = refl
none-free x ty (nameless_application f a) e =
    let h = and_parts (has_no_free f) (has_no_free a) e in
    either-false (nameless_has_free x ty f) (nameless_has_free x ty a) (none-free x ty f h.0) (none-free x ty a h.1)
none-free x ty (nameless_abstraction u b) e = none-free x ty b e

-- ---- the laws at types and terms

module _ (sig : Signature) (named : List (Chars × Nameless)) (label : Chars) (a c b d : TypeTree) (r s f g : Nameless)
    (hr : IsOfType sig r (relation_type a c)) (hs : IsOfType sig s (relation_type b d)) (hf : IsOfType sig f (fun a b)) (hg : IsOfType sig g (fun c d)) where
  pub law-applied : (x y : Nameless) → found label named ≡ Some application_law → IsOfType sig x a → IsOfType sig y c
      → named_at sig named label (paired relator_names (a ∷ c ∷ b ∷ d ∷ [])) (r ∷ s ∷ f ∷ g ∷ x ∷ y ∷ [])
      ≡ Ok (theorem (nameless_implies (related (rel_fun (a ∷ c ∷ b ∷ d ∷ []) r s) f g) (nameless_implies (related r x y) (results_related s f g x y))))
  law-applied x y l hx hy =
      ap (λ o. with_found UnknownLabel o (statement_at sig (paired relator_names (a ∷ c ∷ b ∷ d ∷ [])) (r ∷ s ∷ f ∷ g ∷ x ∷ y ∷ []))) l
      ∙ at-each-filled sig (relation_type a c ∷ relation_type b d ∷ fun a b ∷ fun c d ∷ a ∷ c ∷ []) (r ∷ s ∷ f ∷ g ∷ x ∷ y ∷ [])
      (application_body (a ∷ c ∷ b ∷ d ∷ []))
      (has sig r (relation_type a c) hr, (has sig s (relation_type b d) hs, (has sig f (fun a b) hf, (has sig g (fun c d) hg, (has sig x a hx, (has sig y c hy, tt))))))

  pub law-abstracted : found label named ≡ Some abstraction_law
      → named_at sig named label (paired relator_names (a ∷ c ∷ b ∷ d ∷ [])) (r ∷ s ∷ f ∷ g ∷ [])
      ≡ Ok (theorem (nameless_implies (related_throughout a c r s f g) (related (rel_fun (a ∷ c ∷ b ∷ d ∷ []) r s) f g)))
  law-abstracted l =
      ap (λ o. with_found UnknownLabel o (statement_at sig (paired relator_names (a ∷ c ∷ b ∷ d ∷ [])) (r ∷ s ∷ f ∷ g ∷ []))) l
      ∙ at-each-filled sig (relation_type a c ∷ relation_type b d ∷ fun a b ∷ fun c d ∷ []) (r ∷ s ∷ f ∷ g ∷ [])
      (abstraction_body a c (a ∷ c ∷ b ∷ d ∷ []))
      (has sig r (relation_type a c) hr, (has sig s (relation_type b d) hs, (has sig f (fun a b) hf, (has sig g (fun c d) hg, tt))))

-- ---- an application

abbrev pub applied_sequent : TypedRelation → Nameless → Nameless → Nameless → Nameless → NamelessSequent → NamelessSequent → NamelessSequent
applied_sequent e f g x y s u = record { hyps = nameless_union (nameless_union [] s.hyps) u.hyps; concl = results_related e.term f g x y }

module _ (sig : Signature) (named : List (Chars × Nameless)) (label : Chars) (r e : TypedRelation) (f g x y : Nameless) (s u : NamelessSequent)
    (hr : IsRelation sig r) (he : IsRelation sig e)
    (hf : IsOfType sig f (relating r e).left) (hg : IsOfType sig g (relating r e).right) (hx : IsOfType sig x r.left) (hy : IsOfType sig y r.right) where
  pub applied-gives : found label named ≡ Some application_law
      → s.concl ≡ related (relating r e).term f g → u.concl ≡ related r.term x y
      → applied_by sig named label s u ≡ Ok (applied_sequent e f g x y s u)
  applied-gives l es eu =
      let ts = relator_types r e in
      let terms = r.term ∷ e.term ∷ f ∷ g ∷ x ∷ y ∷ [] in
      let parts : as_applied s.concl u.concl ≡ Some (ts, terms) = λ i. as_applied (es i) (eu i) in
      let first = related (relating r e).term f g in
      let rest = nameless_implies (related r.term x y) (results_related e.term f g x y) in
      found-on MiddleDiffers (as_applied s.concl u.concl) (ts, terms) _ parts
      ∙ ap (λ o. with_ok o (λ law. with_ok (detached law s) (λ v. detached v u)))
      (law-applied sig named label r.left r.right e.left e.right r.term e.term f g hr.typed he.typed hf hg x y l hx hy)
      ∙ ap (λ o. with_ok o (λ v. detached v u)) (detached-is [] first rest s (sym es))
      ∙ detached-is (nameless_union [] s.hyps) (related r.term x y) (results_related e.term f g x y) u (sym eu)

-- ---- an abstraction

module _ (x y : Chars) (a c : TypeTree) (r s f g : Nameless) (apart : same_name y x ≡ false)
    (xr : nameless_has_free x a r ≡ false) (xs : nameless_has_free x a s ≡ false) (xf : nameless_has_free x a f ≡ false) (xg : nameless_has_free x a g ≡ false)
    (yr : nameless_has_free y c r ≡ false) (ys : nameless_has_free y c s ≡ false) (yf : nameless_has_free y c f ≡ false) (yg : nameless_has_free y c g ≡ false) where
  abbrev for-variables : Nameless
  for-variables = nameless_implies (related r (nameless_free x a) (nameless_free y c)) (results_related s f g (nameless_free x a) (nameless_free y c))

  -- closed over both variables
  pub closed-both : nameless_for_all a (nameless_abstraction a (abstracted 0 x a (nameless_for_all c (nameless_abstraction c (abstracted 0 y c for-variables)))))
      ≡ related_throughout a c r s f g
  closed-both =
      let other : (same_name y x && same_type c a) ≡ false = ap (λ v. v && same_type c a) apart in
      let stays : abstracted 0 y c (nameless_free x a) ≡ nameless_free x a = cond-false (same_name y x && same_type c a) _ _ other in
      let goes : abstracted 0 y c (nameless_free y c) ≡ nameless_bound 0 = cond-true (same_name y y && same_type c c) _ _ (and_from _ _ (true-name y y refl) (type-refl c)) in
      let out : abstracted 1 x a (nameless_free x a) ≡ nameless_bound 1 = cond-true (same_name x x && same_type a a) _ _ (and_from _ _ (true-name x x refl) (type-refl a)) in
      (λ i. nameless_for_all a (nameless_abstraction a (abstracted 0 x a (nameless_for_all c (nameless_abstraction c
      (nameless_implies (related (closed-same 0 y c r yr i) (stays i) (goes i))
      (results_related (closed-same 0 y c s ys i) (closed-same 0 y c f yf i) (closed-same 0 y c g yg i) (stays i) (goes i))))))))
      ∙ (λ i. nameless_for_all a (nameless_abstraction a (nameless_for_all c (nameless_abstraction c
      (nameless_implies (related (closed-same 1 x a r xr i) (out i) (nameless_bound 0))
      (results_related (closed-same 1 x a s xs i) (closed-same 1 x a f xf i) (closed-same 1 x a g xg i) (out i) (nameless_bound 0)))))))

pub variable-of : (sig : Signature) (x : Chars) (ty : TypeTree) → type_fault sig ty ≡ None → IsOfType sig (nameless_free x ty) ty
variable-of sig x ty h = ap (λ o. unless o (Ok ty)) h

pub related-of : (sig : Signature) (r : TypedRelation) (x y : Nameless) → IsRelation sig r → IsOfType sig x r.left → IsOfType sig y r.right → IsOfType sig (related r.term x y) bool
related-of sig r x y h hx hy =
    application-of sig (nameless_application r.term x) y r.right bool (application-of sig r.term x r.left (fun r.right bool) h.typed hx) hy

abbrev pub binding : Chars → Chars → TypedRelation → Binding
binding x y r = record { image = x; left = r.left; given = y; right = r.right; relation = r.term }

abbrev pub left_hyps : Binding → NamelessSequent → List Nameless
left_hyps b s = nameless_without (variables_related b) (nameless_union [] s.hyps)

abbrev pub abstracted_sequent : Chars → Chars → TypedRelation → TypedRelation → Nameless → Nameless → NamelessSequent → NamelessSequent
abstracted_sequent x y r e f g s = record {
  hyps = nameless_union [] (left_hyps (binding x y r) s);
  concl = related (relating r e).term (closed x r.left f) (closed y r.right g);
}

module _ (sig : Signature) (named : List (Chars × Nameless)) (label : Chars) (x y : Chars) (r e : TypedRelation) (f g : Nameless) (s : NamelessSequent)
    (hr : IsRelation sig r) (he : IsRelation sig e) (hf : IsOfType sig f e.left) (hg : IsOfType sig g e.right)
    (apart : same_name y x ≡ false) (yf : nameless_has_free y r.right f ≡ false) (xg : nameless_has_free x r.left g ≡ false)
    (xh : list_any (nameless_has_free x r.left) (left_hyps (binding x y r) s) ≡ false)
    (yh : list_any (nameless_has_free y r.right) (left_hyps (binding x y r) s) ≡ false) where
  abbrev here : Binding
  here = binding x y r

  abbrev image : Nameless
  image = closed x r.left f

  abbrev given : Nameless
  given = closed y r.right g

  abbrev premise : NamelessSequent
  premise = record { hyps = left_hyps here s; concl = related_throughout r.left r.right r.term e.term image given }

  is-closed : nameless_for_all r.left (nameless_abstraction r.left (abstracted 0 x r.left (nameless_for_all r.right (nameless_abstraction r.right (abstracted 0 y r.right
      (nameless_implies (variables_related here) (results_related e.term image given (nameless_free x r.left) (nameless_free y r.right))))))))
      ≡ related_throughout r.left r.right r.term e.term image given
  is-closed = closed-both x y r.left r.right r.term e.term image given apart
      (none-free x r.left r.term hr.closed) (none-free x r.left e.term he.closed) (closed-gone 0 x r.left f) (closed-other 0 y x r.right r.left g xg)
      (none-free y r.right r.term hr.closed) (none-free y r.right e.term he.closed) (closed-other 0 x y r.left r.right f yf) (closed-gone 0 y r.right g)

  premise-gives : closed_over_both sig here (variables_related here) (expanded here e.term f g s.hyps) ≡ Ok premise
  premise-gives =
      let boolean : nameless_has_type sig (variables_related here) bool ≡ true =
      has sig (variables_related here) bool (related-of sig r (nameless_free x r.left) (nameless_free y r.right) hr (variable-of sig x r.left hr.left) (variable-of sig y r.right hr.right)) in
      let p = nameless_implies (variables_related here) (results_related e.term image given (nameless_free x r.left) (nameless_free y r.right)) in
      let q = nameless_for_all r.right (nameless_abstraction r.right (abstracted 0 y r.right p)) in
      let hs = left_hyps here s in
      ap (λ o. with_ok o (λ u. with_ok (generalised y r.right u) (generalised x r.left))) (holds-on _ _ (Ok (record { hyps = hs; concl = p })) boolean)
      ∙ ap (λ o. with_ok o (generalised x r.left)) (holds-on _ _ (Ok (record { hyps = hs; concl = q })) (ap not yh))
      ∙ holds-on _ _ (Ok (record { hyps = hs; concl = nameless_for_all r.left (nameless_abstraction r.left (abstracted 0 x r.left q)) })) (ap not xh)
      ∙ ap (λ t. Ok (record { hyps = hs; concl = t })) is-closed

  types-are : (nameless_type_of sig f ≡ e.left) × (nameless_type_of sig g ≡ e.right)
  types-are = (ap (λ o. result_unwrap_or o bool) hf, ap (λ o. result_unwrap_or o bool) hg)

  pub abstracted-gives : found label named ≡ Some abstraction_law → s.concl ≡ related e.term f g
      → abstracted_by sig named label here s ≡ Ok (abstracted_sequent x y r e f g s)
  abstracted-gives l es =
      let terms = r.term ∷ e.term ∷ image ∷ given ∷ [] in
      let Law : TypeTree → TypeTree → NamelessOutcome = λ v w. named_at sig named label (paired relator_names (r.left ∷ r.right ∷ v ∷ w ∷ [])) terms in
      let parts : as_related s.concl ≡ Some (e.term, f, g) = ap as_related es in
      found-on MiddleDiffers (as_related s.concl) (e.term, f, g) _ parts
      ∙ ap (λ o. with_ok o (λ q. with_ok (Law (nameless_type_of sig f) (nameless_type_of sig g)) (λ law. detached law q))) premise-gives
      ∙ (λ i. with_ok (Law (types-are.0 i) (types-are.1 i)) (λ law. detached law premise))
      ∙ ap (λ o. with_ok o (λ law. detached law premise))
      (law-abstracted sig named label r.left r.right e.left e.right r.term e.term image given hr.typed he.typed
      (closed-of sig x r.left f e.left hr.left hf) (closed-of sig y r.right g e.right hr.right hg) l)
      ∙ detached-is [] premise.concl (related (relating r e).term image given) premise refl
