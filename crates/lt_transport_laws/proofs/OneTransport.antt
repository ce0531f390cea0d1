-- One outcome comes of each transport.
use Rattle.std.specs.Fmt.{decimal}
use Rattle.std.specs.Prelude.{◌≡◌, ℕ, zero, suc, List, [], ◌∷◌, ◌++◌, codes, Bool, true, false, ◌||◌, ◌&&◌, not, Option, Some, None, Result, Ok, Err, map, filter, slice_get}
use Rattle.std.specs.List.{zip}
use Rattle.std.proofs.Common.{refl, subst, sym, ap, ◌∙◌, inl, inr, arith}
use Rattle.std.proofs.lemmas.Option.{slice_get_past}
use Rattle.lt_definitions.specs.Types.{Chars, same_name, TypeTree}
use Rattle.lt_definitions.specs.Terms.{TermTree, has_loose, HasNoLooseNames}
use Rattle.lt_definitions.specs.Typing.{Signature, Fault, typed}
use Rattle.lt_definitions.specs.Theory.{Refusal, boolean_test, statement_test, closed_test}
use Rattle.lt_definitions.proofs.SameNames.{bool_cases}
use Rattle.lt_nameless.proofs.BindingLemmas.{if-true, if-false}
use Rattle.lt_nameless.proofs.Typings.{typed-has}
use Rattle.lt_nameless.proofs.TypeLaws.{typed_terms_have_no_loose_names}
use Rattle.lt_transport_definitions.specs.Constants.{is_counted}
use Rattle.lt_transport_definitions.specs.Relations.{Registry, DomainRule}
use Rattle.lt_transport_definitions.specs.RelationTerms.{meaning_of}
use Rattle.lt_transport_definitions.specs.Answers.{first_wrong}
use Rattle.lt_transport_definitions.specs.RuleForm.{TransferRule}
use Rattle.lt_transport_definitions.specs.Candidates.{match_of, fits}
use Rattle.lt_transport_definitions.specs.Correspondence.{ChosenStatement, chosen_name, chosen_rule, chosen_equality, not_chosen, chosen_application, chosen_abstraction, Assignment, statement_of, AreCandidates, left_types, image_of}
use Rattle.lt_transport_definitions.specs.Search.{Top, equal, implied, Question, HasImage}
use Rattle.lt_transport_definitions.specs.Reduction.{as_printed}
use Rattle.lt_transport_definitions.specs.Sessions.{Session, rules_now}
use Rattle.lt_texts.specs.Commands.{item_command, law_command, corr_command, relator_command, property_command, domain_command, rule_command, lifting_command, lifting_typedef_command, quotient_type_command, lift_command, parametric_command, param_rule_command, equiv_command, implies_command, carry_command, abs_eq_command, rep_eq_command}
use Rattle.lt_transport_definitions.specs.Commands.{CommandRefusal, because, Addition, a_lemma, Registration, transport_registered}
use Rattle.lt_transport_definitions.specs.Rows.{BlockOutcome, Row, ◌⊳◌, with_image, with_normal_form, adds, item_test, law_test}
use Rattle.lt_transport_definitions.specs.Parts.{registration_test, name_test, names_added}
use Rattle.lt_transport_definitions.specs.TransportRows.{question_of, laws_asked, size_test, transported, adds_transport, transport_row}
use Rattle.lt_transport_definitions.specs.Blocks.{Unless, ComesOfRow}
use Rattle.lt_transport_laws.specs.Statements.{IsRegistry}
use Rattle.lt_transport_laws.specs.SessionStatements.{AreScopedDomains, IsScopedSession, EachOutcomeIsOne}
use Rattle.lt_transport_laws.proofs.Rows.{AllOf}
use Rattle.lt_transport_laws.proofs.Exchanges.{neither}
use Rattle.lt_transport_laws.proofs.ReductionLemmas.{printed-alike}
use Rattle.lt_transport_laws.proofs.NormalForms.{normal-one, limits-one, normal-or-limit}
use Rattle.lt_transport_laws.proofs.Unique.{answers_one}
use Rattle.lt_transport_laws.proofs.Exclusive.{visits-more}
use Rattle.lt_transport_laws.proofs.OneOutcome.{IsOne, one-unless, outcomes-one}
use Rattle.lt_transport_laws.proofs.ScopedTerms.{IsScopedDomain, with-none, meanings-scoped}
use Rattle.lt_transport_laws.proofs.ScopedRules.{IsScopedRule, rules-scoped}

-- what stands in a list among those that pass a test has what each of the list has
among : (f : TransferRule → Bool) (rules : List TransferRule) (i : ℕ) (rule : TransferRule) → AllOf IsScopedRule rules
    → slice_get (filter f rules) i ≡ Some rule → IsScopedRule rule
among f [] i rule h e = let n : ◌≡◌ {A = Option TransferRule} None (Some rule) = sym (slice_get_past [] i (omega arith)) ∙ e in absurd (cc)
among f (r ∷ rules) i rule h e = elim (bool_cases (f r)) [
  | inr n ↦ among f rules i rule h.1 (sym (ap (λ xs. slice_get xs i) (if-false (f r) (r ∷ filter f rules) (filter f rules) n)) ∙ e)
  | inl y ↦ first r (filter f rules) i rule h.0 (λ j k. among f rules j rule h.1 k)
      (sym (ap (λ xs. slice_get xs i) (if-true (f r) (r ∷ filter f rules) (filter f rules) y)) ∙ e)
]
  where
    first : (r : TransferRule) (rules : List TransferRule) (i : ℕ) (rule : TransferRule) → IsScopedRule r
        → ((j : ℕ) → slice_get rules j ≡ Some rule → IsScopedRule rule) → slice_get (r ∷ rules) i ≡ Some rule → IsScopedRule rule
    first r rules zero rule p k e = let q : r ≡ rule = cc in subst IsScopedRule q p
    first r rules (suc i) rule p k e = k i e

either-false : (a b : Bool) → a ≡ false → b ≡ false → (a || b) ≡ false
either-false true b h k = absurd (cc)
either-false false b h k = k

-- an image has no loose name that the statement lacks
image-none : (sig : Signature) (G : Registry) (rules : List TransferRule) → AllOf IsScopedRule rules → AllOf IsScopedDomain G.domain_rules
    → (K : ChosenStatement) (v : Assignment K) (z : Chars) → AreCandidates rules K → has_loose z (statement_of K) ≡ false → has_loose z (image_of sig G K v) ≡ false
image-none sig G rules r d (chosen_name x) v z c h = h
image-none sig G rules r d (chosen_rule k ts i rule) v z c h =
    with-none z (is_counted sig (codes "Domainp")) (left_types G rule.variables v ++ match_of rule ts) (zip (map (λ x. x.name) rule.variables) (map (meaning_of G) v)) rule.raw
    (meanings-scoped G d (map (λ x. x.name) rule.variables) v) (among (fits k ts) rules i rule r c z)
image-none sig G rules r d (chosen_equality k ts) v z c h = refl
image-none sig G rules r d (not_chosen k ts) v z c h = refl
image-none sig G rules r d (chosen_application f a) v z c h =
    let p = neither (has_loose z (statement_of f)) (has_loose z (statement_of a)) h in
    either-false (has_loose z (image_of sig G f v.0)) (has_loose z (image_of sig G a v.1))
    (image-none sig G rules r d f v.0 z c.0 p.0) (image-none sig G rules r d a v.1 z c.1 p.1)
image-none sig G rules r d (chosen_abstraction x ty b) v z c h = elim (bool_cases (same_name z x)) [
  | inl s ↦ ap (λ n. not n && has_loose z (image_of sig G b v.1)) s
  | inr s ↦ ap (λ n. not n && has_loose z (image_of sig G b v.1)) s
      ∙ image-none sig G rules r d b v.1 z c (sym (ap (λ n. not n && has_loose z (statement_of b)) s) ∙ h)
]

domains-all : (ds : List DomainRule) → AreScopedDomains ds → AllOf IsScopedDomain ds
domains-all [] h = tt
domains-all (d ∷ ds) h = (h.0, domains-all ds h.1)

-- an image that is found has no loose names
found-none : (s : Session) (top : Top) (t image : TermTree) → IsScopedSession s → HasNoLooseNames t → HasImage (question_of s top t) s.limit image
    → HasNoLooseNames image
found-none s top t image h l k z =
    let w = k.2 in
    ap (has_loose z) k.4 ∙ image-none s.context.signature s.registry (rules_now s) (rules-scoped s h.statements) (domains-all s.registry.domain_rules h.domains)
    w.chosen w.assignment z w.by_candidates (ap (has_loose z) w.of_statement ∙ l z)

-- where a row asks for an image, one outcome comes of it if one comes of the rest
one-image : (s : Session) (q : Question) (limit : ℕ) (rest : TermTree → Row) → IsRegistry q.registry
    → ((image : TermTree) → HasImage q limit image → IsOne (ComesOfRow s (rest image))) → IsOne (ComesOfRow s (with_image q limit rest))
one-image s q limit rest ok h o p x y = elim x [
  | inl a ↦ elim y [
    | inl b ↦ a.1 ∙ sym b.1
    | inr r ↦ elim r [
      | inl b ↦ absurd (visits-more q b.0.0.0 limit b.0.0.1 b.0.0.2 a.0)
      | inr b ↦ absurd (visits-more q b.1.0.0 limit b.1.0.1 b.1.0.2 a.0)
    ]
  ]
  | inr l ↦ elim l [
    | inl a ↦ elim y [
      | inl b ↦ absurd (visits-more q a.0.0.0 limit a.0.0.1 a.0.0.2 b.0)
      | inr r ↦ elim r [
        | inl b ↦ a.1 ∙ sym b.1
        | inr b ↦ absurd (a.0.1 b.1.1 b.1.3.whole b.1.2)
      ]
    ]
    | inr a ↦ elim y [
      | inl b ↦ absurd (visits-more q a.1.0.0 limit a.1.0.1 a.1.0.2 b.0)
      | inr r ↦ elim r [
        | inl b ↦ absurd (b.0.1 a.1.1 a.1.3.whole a.1.2)
        | inr b ↦
            let e : a.0 ≡ b.0 = a.1.4 ∙ (answers_one q ok a.1.1 b.1.1 a.1.2 b.1.2 a.1.3 b.1.3).2 ∙ sym b.1.4 in
            h b.0 b.1 o p (subst (λ u. ComesOfRow s (rest u) o) e a.2) b.2
      ]
    ]
  ]
]

-- the same where it asks for a normal form
one-normal : (s : Session) (t : TermTree) (rest : TermTree → Row) → HasNoLooseNames t → ((u : TermTree) → IsOne (ComesOfRow s (rest u)))
    → IsOne (ComesOfRow s (with_normal_form t rest))
one-normal s t rest l h o p x y = elim x [
  | inl a ↦ elim y [
    | inl b ↦ a.2 ∙ ap (λ k. Err (because "NormLimit" (decimal k ∷ []))) (limits-one t a.0 b.0 a.1 b.1) ∙ sym b.2
    | inr b ↦ absurd (normal-or-limit t b.0 a.0 l b.1 a.1)
  ]
  | inr a ↦ elim y [
    | inl b ↦ absurd (normal-or-limit t a.0 b.0 l a.1 b.1)
    | inr b ↦
        let e : as_printed [] a.0 ≡ as_printed [] b.0 = printed-alike [] a.0 b.0 (normal-one t a.0 b.0 l a.1 b.1) in
        h (as_printed [] b.0) o p (subst (λ u. ComesOfRow s (rest u) o) e a.2) b.2
  ]
]

one-adds : (s : Session) (items : List Addition) (registered : List Registration) → IsOne (ComesOfRow s (adds items registered))
one-adds s items registered o p x y = x ∙ sym y

one-block : (s : Session) (n : Chars) (top : Top) (t u : TermTree) → IsOne (ComesOfRow s (adds_transport n top t u))
one-block s n top t u = one-adds s (a_lemma n (transported top u t) ∷ [])
    (transport_registered (record { label = n; given = t; image = u; top = top }) ∷ [])

one-row : (s : Session) (n : Chars) (top : Top) (t : TermTree) → IsScopedSession s → HasNoLooseNames t → IsOne (ComesOfRow s (transport_row s n top t))
one-row s n top t h l =
    let block : TermTree → Row = λ u. adds_transport n top t u in
    let sized : TermTree → Row = λ image. size_test image ⊳ with_normal_form image block in
    let asked : Row = with_image (question_of s top t) s.limit sized in
    one-unless (item_test (closed_test t)) (ComesOfRow s (law_test s (laws_asked s) ⊳ (size_test t ⊳ asked)))
    (one-unless (law_test s (laws_asked s)) (ComesOfRow s (size_test t ⊳ asked))
    (one-unless (size_test t) (ComesOfRow s asked)
    (one-image s (question_of s top t) s.limit sized h.registry (λ image k.
    one-unless (size_test image) (ComesOfRow s (with_normal_form image block))
    (one-normal s image block (found-none s top t image h l k) (λ u. one-block s n top t u))))))

-- a statement that passes its test has no loose names
stated-none : (sig : Signature) (t : TermTree) (r : Result TypeTree Fault) → typed sig [] t ≡ r → boolean_test r ≡ None → HasNoLooseNames t
stated-none sig t (Ok ty) e h = typed_terms_have_no_loose_names sig t ty (typed-has sig [] t ty e)
stated-none sig t (Err f) e h = absurd (cc)

one-behind : (test : Option Refusal) (rest : List (Option CommandRefusal)) (Is : BlockOutcome → Type 0) → (test ≡ None → IsOne Is)
    → IsOne (Unless (first_wrong (item_test test ∷ rest)) Is)
one-behind (Some r) rest Is h o p x y = x ∙ sym y
one-behind None rest Is h o p x y = one-unless (first_wrong rest) Is (h refl) o p x y

one-transport : (s : Session) (n : Chars) (top : Top) (t : TermTree) (rest : List (Option CommandRefusal)) → IsScopedSession s
    → IsOne (Unless (first_wrong (item_test (statement_test s.context t) ∷ rest)) (ComesOfRow s (transport_row s n top t)))
one-transport s n top t rest h = one-behind (statement_test s.context t) rest (ComesOfRow s (transport_row s n top t))
    (λ e. one-row s n top t h (stated-none s.context.signature t (typed s.context.signature [] t) refl e))

pub each-one : EachOutcomeIsOne
each-one s (equiv_command n t) o p h = one-transport s n equal t (registration_test s (equiv_command n t) ∷ item_test (name_test s.context (names_added (equiv_command n t))) ∷ []) h o p
each-one s (implies_command n t) o p h = one-transport s n implied t (registration_test s (implies_command n t) ∷ item_test (name_test s.context (names_added (implies_command n t))) ∷ []) h o p
each-one s (item_command i) o p h = outcomes-one s (item_command i) o p refl
each-one s (law_command w l) o p h = outcomes-one s (law_command w l) o p refl
each-one s (corr_command c) o p h = outcomes-one s (corr_command c) o p refl
each-one s (relator_command K R M E Q O) o p h = outcomes-one s (relator_command K R M E Q O) o p refl
each-one s (property_command l) o p h = outcomes-one s (property_command l) o p refl
each-one s (domain_command l) o p h = outcomes-one s (domain_command l) o p refl
each-one s (rule_command l) o p h = outcomes-one s (rule_command l) o p refl
each-one s (lifting_command l) o p h = outcomes-one s (lifting_command l) o p refl
each-one s (lifting_typedef_command q) o p h = outcomes-one s (lifting_typedef_command q) o p refl
each-one s (quotient_type_command q params r l) o p h = outcomes-one s (quotient_type_command q params r l) o p refl
each-one s (lift_command n ty t l) o p h = outcomes-one s (lift_command n ty t l) o p refl
each-one s (parametric_command q) o p h = outcomes-one s (parametric_command q) o p refl
each-one s (param_rule_command n l m) o p h = outcomes-one s (param_rule_command n l m) o p refl
each-one s (carry_command n e l) o p h = outcomes-one s (carry_command n e l) o p refl
each-one s (abs_eq_command c) o p h = outcomes-one s (abs_eq_command c) o p refl
each-one s (rep_eq_command c) o p h = outcomes-one s (rep_eq_command c) o p refl
