-- A derivation along a whole statement relates it to its image.
use Rattle.std.proofs.Common.{◌≡◌, ℕ, zero, suc, ◌-◌, ◌<◌, ◌≤◌, List, [], ◌∷◌, ◌++◌, length, slice_get, drop, true, false, Ok, Some, None, refl, sym, ◌∙◌, ap, subst, arith}
use Rattle.std.proofs.lemmas.List.{append_assoc, append-nil}
use Rattle.std.proofs.lemmas.Bool.{and_from}
use Rattle.lt_definitions.specs.Types.{found, TypeTree, bool, fun}
use Rattle.lt_definitions.specs.Typing.{Signature, with_ok, type_fault}
use Rattle.lt_definitions.specs.Rules.{line_at, with_found}
use Rattle.lt_definitions.specs.declared.reason.Reason.TheVariants.{MissingLine, NotBool}
use Rattle.lt_definitions.proofs.RuleLemmas.{found-on, holds-on}
use Rattle.lt_nameless.specs.Nameless.{Nameless, nameless_free, nameless_bound, nameless_application, nameless_abstraction, NamelessSequent}
use Rattle.lt_nameless.specs.NamelessRules.{NamelessOutcome, nameless_gives, nameless_has_type, nameless_union}
use Rattle.lt_nameless.specs.Booleans.{IsSoundSignature}
use Rattle.lt_nameless.proofs.ClosedSteps.{typed-whole}
use Rattle.lt_programs.specs.Programs.{theorem}
use Rattle.lt_programs.specs.TypedTerms.{IsOfType}
use Rattle.lt_programs.specs.Openings.{filled}
use Rattle.lt_programs.proofs.Filled.{filled-whole, filled-none}
use Rattle.lt_programs.proofs.TypedTermLemmas.{has, application-of, closed-of}
use Rattle.lt_relating.specs.TypedRelations.{TypedRelation, related, relating, has_no_free, HasRelator, IsRelation}
use Rattle.lt_relating.specs.RelatorLaws.{application_law, abstraction_law}
use Rattle.lt_relating.specs.RelatedSteps.{variables_related, closed}
use Rattle.lt_relating.specs.Parts.{Laws, Part, by_line, by_name, by_application, by_abstraction, part_gives, walked}
use Rattle.lt_relating.specs.Plans.{Plan, planned_line, planned_name, planned_application, planned_abstraction, image_of, given_of, Relates, image_name, given_name, binding_at, parts_of}
use Rattle.lt_relating.proofs.RelatedLemmas.{variable-of, related-of, applied_sequent, applied-gives, binding, left_hyps, abstracted_sequent, abstracted-gives}
use Rattle.lt_relating.proofs.RelatorLemmas.{relating-is, relating-parts}
use Rattle.lt_relating.proofs.OpenedLemmas.{variables, variable-at, body-closed, filled-lacks, lack-given, lack-image}
use Rattle.lt_relating.proofs.Assumptions.{Among, AllAmong, union-among, without-among, among-none, assumptions, assumed-among, AreRelations, relation-at, all-image-absent, all-given-absent}

-- the image and the statement, opened by the variables of the binders around them
abbrev pub opened_image : List TypedRelation → Plan → Nameless
opened_image env t = filled (variables 120 (λ r. r.left) env) 0 (image_of t)

abbrev pub opened_given : List TypedRelation → Plan → Nameless
opened_given env t = filled (variables 121 (λ r. r.right) env) 0 (given_of t)

-- The sequent relates both, under hypotheses of the binders around them alone.
pub record Tells (sig : Signature) (env : List TypedRelation) (t : Plan) (e : TypedRelation) (s : NamelessSequent) : Type 0 where
  pub relation : IsRelation sig e
  pub hyps : AllAmong s.hyps (assumptions env)
  pub concl : s.concl ≡ related e.term (opened_image env t) (opened_given env t)
  pub image : IsOfType sig (opened_image env t) e.left
  pub given : IsOfType sig (opened_given env t) e.right

module _ (sig : Signature) (laws : Laws) (done : List NamelessSequent) (sound : IsSoundSignature sig) (relator : HasRelator sig)
    (app : found laws.application laws.named ≡ Some application_law) (abs : found laws.abstraction laws.named ≡ Some abstraction_law) where
  image-closed : (env : List TypedRelation) (t : Plan) (e : TypedRelation) → Relates sig done env t e → has_no_free (image_of t) ≡ true
  image-closed env (planned_line n s u) e h = h.image_closed
  image-closed env (planned_name i r) e h = refl
  image-closed env (planned_application f a) e h =
      and_from (has_no_free (image_of f)) (has_no_free (image_of a)) (image-closed env f (relating h.0 e) h.2) (image-closed env a h.0 h.1)
  image-closed env (planned_abstraction r b) e h = image-closed (r ∷ env) b h.0 h.3

  given-closed : (env : List TypedRelation) (t : Plan) (e : TypedRelation) → Relates sig done env t e → has_no_free (given_of t) ≡ true
  given-closed env (planned_line n s u) e h = h.given_closed
  given-closed env (planned_name i r) e h = refl
  given-closed env (planned_application f a) e h =
      and_from (has_no_free (given_of f)) (has_no_free (given_of a)) (given-closed env f (relating h.0 e) h.2) (given-closed env a h.0 h.1)
  given-closed env (planned_abstraction r b) e h = given-closed (r ∷ env) b h.0 h.3

  -- a sequent that tells, and that the parts give it, whatever stands before and behind them
  abbrev Told : List TypedRelation → Plan → TypedRelation → Type 0
  Told env t e = (s : NamelessSequent) × Tells sig env t e s × ((ss : List NamelessSequent) (rest : List Part)
      → walked sig laws done ss (parts_of (length env) t ++ rest) ≡ walked sig laws done (s ∷ ss) rest)

  -- what comes behind a part that takes nothing
  abbrev onward : List NamelessSequent → List Part → NamelessSequent → NamelessOutcome
  onward ss rest s = walked sig laws done (s ∷ ss) rest

  line-told : (env : List TypedRelation) (n : ℕ) (s u : Nameless) (e : TypedRelation) → Relates sig done env (planned_line n s u) e → Told env (planned_line n s u) e
  line-told env n s u e h =
      let left : opened_image env (planned_line n s u) ≡ s = filled-whole (variables 120 (λ r. r.left) env) 0 0 s (omega arith) (typed-whole sig [] s e.left h.image) in
      let right : opened_given env (planned_line n s u) ≡ u = filled-whole (variables 121 (λ r. r.right) env) 0 0 u (omega arith) (typed-whole sig [] u e.right h.given) in (
        theorem (related e.term s u),
        record {
          relation = h.relation;
          hyps = tt;
          concl = λ i. related e.term (sym left i) (sym right i);
          image = subst (λ t. IsOfType sig t e.left) (sym left) h.image;
          given = subst (λ t. IsOfType sig t e.right) (sym right) h.given;
        },
        λ ss rest. ap (λ o. with_ok (with_found MissingLine o (λ v. Ok v)) (onward ss rest)) h.line,
      )

  name-told : (env : List TypedRelation) (i : ℕ) (r e : TypedRelation) → AreRelations sig env → Relates sig done env (planned_name i r) e → Told env (planned_name i r) e
  name-told env i r e rs h =
      let d = length env - suc i in
      let one = relation-at sig env i r rs h.0 in
      let p = variables_related (binding_at d r) in
      let x = nameless_free (image_name d) r.left in
      let y = nameless_free (given_name d) r.right in
      let hx = variable-of sig (image_name d) r.left one.left in
      let hy = variable-of sig (given_name d) r.right one.right in
      let left = variable-at 120 (λ q. q.left) env i r h.0 in
      let right = variable-at 121 (λ q. q.right) env i r h.0 in
      let boolean : nameless_has_type sig p bool ≡ true = has sig p bool (related-of sig r x y one hx hy) in
      let s : NamelessSequent = record { hyps = p ∷ []; concl = p } in
      let told : Tells sig env (planned_name i r) r s = record {
        relation = one;
        hyps = (assumed-among env i r h.0, tt);
        concl = λ v. related r.term (sym left v) (sym right v);
        image = subst (λ t. IsOfType sig t r.left) (sym left) hx;
        given = subst (λ t. IsOfType sig t r.right) (sym right) hy;
      } in (
        s,
        subst (λ (q : TypedRelation). Tells sig env (planned_name i r) q s) (sym h.1) told,
        λ ss rest. ap (λ o. with_ok o (onward ss rest)) (holds-on (nameless_has_type sig p bool) NotBool (nameless_gives (p ∷ []) p) boolean),
      )

  application-told : (env : List TypedRelation) (f a : Plan) (r e : TypedRelation)
      → Told env a r → Told env f (relating r e) → Told env (planned_application f a) e
  application-told env f a r e (u, ta, wa) (s, tf, wf) =
      let both = relating-parts sig relator r e tf.relation in
      let hr = both.0 in
      let he = both.1 in
      let q = applied_sequent e (opened_image env f) (opened_given env f) (opened_image env a) (opened_given env a) s u in (
        q,
        record {
          relation = he;
          hyps = union-among (nameless_union [] s.hyps) u.hyps (assumptions env) (union-among [] s.hyps (assumptions env) tt tf.hyps) ta.hyps;
          concl = refl;
          image = application-of sig (opened_image env f) (opened_image env a) r.left e.left tf.image ta.image;
          given = application-of sig (opened_given env f) (opened_given env a) r.right e.right tf.given ta.given;
        },
        λ ss rest.
            let d = length env in
            ap (walked sig laws done ss) (append_assoc (parts_of d f) (parts_of d a ++ by_application ∷ []) rest
            ∙ ap (λ ps. parts_of d f ++ ps) (append_assoc (parts_of d a) (by_application ∷ []) rest))
            ∙ wf ss (parts_of d a ++ by_application ∷ rest)
            ∙ wa (s ∷ ss) (by_application ∷ rest)
            ∙ ap (λ o. with_ok o (onward ss rest))
            (applied-gives sig laws.named laws.application r e (opened_image env f) (opened_given env f) (opened_image env a) (opened_given env a) s u hr he tf.image tf.given ta.image ta.given app tf.concl ta.concl),
      )

  abstraction-told : (env : List TypedRelation) (r e : TypedRelation) (b : Plan) → IsRelation sig r → AreRelations sig env
      → has_no_free (image_of b) ≡ true → has_no_free (given_of b) ≡ true → Told (r ∷ env) b e → Told env (planned_abstraction r b) (relating r e)
  abstraction-told env r e b hr rs ci cg (s, tb, wb) =
      let he = tb.relation in
      let d = length env in
      let x = image_name d in
      let y = given_name d in
      let f = opened_image (r ∷ env) b in
      let g = opened_given (r ∷ env) b in
      let left : closed x r.left f ≡ opened_image env (planned_abstraction r b) = body-closed 120 (λ q. q.left) env r (image_of b) ci in
      let right : closed y r.right g ≡ opened_given env (planned_abstraction r b) = body-closed 121 (λ q. q.right) env r (given_of b) cg in
      let few = without-among (variables_related (binding_at d r)) (nameless_union [] s.hyps) (assumptions env) (union-among [] s.hyps (assumptions (r ∷ env)) tt tb.hyps) in
      let q = abstracted_sequent x y r e f g s in (
        q,
        record {
          relation = relating-is sig relator r e sound hr he;
          hyps = union-among [] (left_hyps (binding x y r) s) (assumptions env) tt few;
          concl = λ i. related (relating r e).term (left i) (right i);
          image = subst (λ t. IsOfType sig t (fun r.left e.left)) left (closed-of sig x r.left f e.left hr.left tb.image);
          given = subst (λ t. IsOfType sig t (fun r.right e.right)) right (closed-of sig y r.right g e.right hr.right tb.given);
        },
        λ ss rest.
            ap (walked sig laws done ss) (append_assoc (parts_of (suc d) b) (by_abstraction (binding_at d r) ∷ []) rest)
            ∙ wb ss (by_abstraction (binding_at d r) ∷ rest)
            ∙ ap (λ o. with_ok o (onward ss rest))
            (abstracted-gives sig laws.named laws.abstraction x y r e f g s hr he tb.image tb.given refl
            (filled-lacks y r.right (variables 120 (λ p. p.left) (r ∷ env)) 0 (image_of b) ci (lack-given (r ∷ env) d r.right))
            (filled-lacks x r.left (variables 121 (λ p. p.right) (r ∷ env)) 0 (given_of b) cg (lack-image (r ∷ env) d r.left))
            (all-image-absent sig d r.left env rs (omega arith) (left_hyps (binding x y r) s) few)
            (all-given-absent sig d r.right env rs (omega arith) (left_hyps (binding x y r) s) few)
            abs tb.concl),
      )

  pub plan-told : (env : List TypedRelation) (t : Plan) (e : TypedRelation) → AreRelations sig env → Relates sig done env t e → Told env t e
  plan-told env (planned_line n s u) e rs h = line-told env n s u e h
  plan-told env (planned_name i r) e rs h = name-told env i r e rs h
  plan-told env (planned_application f a) e rs h =
      application-told env f a h.0 e (plan-told env a h.0 rs h.1) (plan-told env f (relating h.0 e) rs h.2)
  plan-told env (planned_abstraction r b) e rs h =
      subst (λ (q : TypedRelation). Told env (planned_abstraction r b) q) (sym h.2)
      (abstraction-told env r h.0 b h.1 rs (image-closed (r ∷ env) b h.0 h.3) (given-closed (r ∷ env) b h.0 h.3) (plan-told (r ∷ env) b h.0 (h.1, rs) h.3))

  -- at the root nothing is assumed, and the image and the statement themselves are related
  pub plan-walked : (t : Plan) (e : TypedRelation) → Relates sig done [] t e
      → walked sig laws done [] (parts_of 0 t) ≡ Ok (theorem (related e.term (image_of t) (given_of t)))
  plan-walked t e h =
      let told = plan-told [] t e tt h in
      let s = told.0 in
      let none = among-none s.hyps told.1.hyps in
      let concl : s.concl ≡ related e.term (image_of t) (given_of t) = told.1.concl ∙ (λ i. related e.term (filled-none (image_of t) 0 i) (filled-none (given_of t) 0 i)) in
      ap (walked sig laws done []) (sym (append-nil (parts_of 0 t))) ∙ told.2 [] [] ∙ (λ i. Ok (record { hyps = none i; concl = concl i }))
