-- A search that finds that no choice list has a solution.
use Rattle.std.specs.Prelude.{◌≡◌, ℕ, zero, suc, List, [], ◌∷◌, ◌++◌, Option, Some, None, length, slice_get, IsSome, Contains, codes}
use Rattle.std.proofs.Common.{refl, subst, sym, ◌∙◌, inl, inr, arith}
use Rattle.lt_definitions.specs.Types.{bool}
use Rattle.lt_definitions.specs.Samples.{con}
use Rattle.lt_transport_definitions.specs.Relations.{Relation, equality}
use Rattle.lt_transport_definitions.specs.Expressions.{implication}
use Rattle.lt_transport_definitions.specs.RuleForm.{TransferRule}
use Rattle.lt_transport_definitions.specs.Candidates.{match_of, candidates, IsChoice}
use Rattle.lt_transport_definitions.specs.Correspondence.{ChosenStatement, chosen_name, chosen_application, chosen_abstraction, chosen_rule, chosen_equality, not_chosen, Assignment, statement_of, numbers_of, AreCandidates, relation_instance, Corresponds}
use Rattle.lt_transport_definitions.specs.Search.{equal, Solution, HasNoAnswer, AreFilled, TopHolds, AreChoices, IsVisit, AreDifferent, HasVisits, HasNoImage}
use Rattle.lt_transport_laws.proofs.Rows.{IsIn}
use Rattle.lt_transport_laws.proofs.Exclusive.{in_at}
use Rattle.lt_transport_laws.specs.SearchSamples.{question_q, rule_pq}

-- the one candidate

rule-only : (i : ℕ) (rule : TransferRule) → slice_get (rule_pq ∷ []) i ≡ Some rule → rule ≡ rule_pq
rule-only zero rule e = cc
rule-only (suc i) rule e = absurd (cc)

top-only : (j : ℕ) (e : Relation) → slice_get (equality bool ∷ []) j ≡ Some e → e ≡ equality bool
top-only zero e h = cc
top-only (suc j) e h = absurd (cc)

one : {A : Type 0} (x : A) (i : ℕ) → IsSome (slice_get (x ∷ []) i) → i ≡ 0
one x zero h = refl
one x (suc i) h = absurd (cc)

no-none : {A : Type 0} (x : A) → ◌≡◌ {A = List A} (x ∷ []) [] → ⊥
no-none x e = cc

only-candidate : candidates question_q.rules (codes "q") [] ≡ rule_pq ∷ []
only-candidate = refl

not-equality : implication ≡ equality bool → ⊥
not-equality e = cc

-- no choice list has a solution

dead-rule : (i : ℕ) (rule : TransferRule) (v : List Relation) (e : Relation) (j : ℕ) → slice_get (rule_pq ∷ []) i ≡ Some rule
    → e ≡ relation_instance question_q.registry (match_of rule []) v rule.relation → slice_get (equality bool ∷ []) j ≡ Some e → ⊥
dead-rule i rule v e j b k h =
    let r : rule ≡ rule_pq = rule-only i rule b in
    let k' : e ≡ implication = k ∙ (λ t. relation_instance question_q.registry (match_of (r t) []) v (r t).relation) in
    not-equality (sym k' ∙ top-only j e h)

dead : (K : ChosenStatement) (v : Assignment K) (e : Relation) (top : Option ℕ) (choices : List ℕ) → statement_of K ≡ con "q" → AreCandidates question_q.rules K
    → AreFilled (numbers_of K ++ top ∷ []) choices → length choices ≡ 2 → Corresponds question_q.registry question_q.signature [] K v e → TopHolds equal top e → ⊥
dead (chosen_name x) v e top choices s b f n k h = absurd (cc)
dead (chosen_application g a) v e top choices s b f n k h = absurd (cc)
dead (chosen_abstraction x ty g) v e top choices s b f n k h = absurd (cc)
dead (chosen_equality c ts) v e top choices s b f n k h =
    let x : c ≡ codes "q" = cc in
    let y : ts ≡ [] = cc in
    no-none rule_pq (sym only-candidate ∙ (sym (λ t. candidates question_q.rules (x t) (y t)) ∙ b))
dead (not_chosen c ts) v e top [] s b f n k h = absurd (cc)
dead (not_chosen c ts) v e top (i ∷ choices) s b f n k h = absurd f
dead (chosen_rule c ts i rule) v e None [] s b f n k h = absurd f
dead (chosen_rule c ts i rule) v e None (j ∷ []) s b f n k h = absurd (cc)
dead (chosen_rule c ts i rule) v e None (j ∷ l ∷ choices) s b f n k h = absurd f.1
dead (chosen_rule c ts i rule) v e (Some j) choices s b f n k h =
    let x : c ≡ codes "q" = cc in
    let y : ts ≡ [] = cc in
    let b' : slice_get (rule_pq ∷ []) i ≡ Some rule =
    sym (λ t. slice_get (only-candidate t) i) ∙ (sym (λ t. slice_get (candidates question_q.rules (x t) (y t)) i) ∙ b) in
    let k' : e ≡ relation_instance question_q.registry (match_of rule []) v rule.relation =
    k ∙ (λ t. relation_instance question_q.registry (match_of rule (y t)) v rule.relation) in
    dead-rule i rule v e j b' k' h

none-solves : HasNoAnswer question_q
none-solves choices whole s =
    dead s.chosen s.assignment s.expression s.top choices s.of_statement s.by_candidates s.filled whole s.corresponds s.top_holds

-- the two visits

abbrev two : List (List ℕ)
two = (0 ∷ []) ∷ (0 ∷ 0 ∷ []) ∷ []

first-solved : Solution question_q (0 ∷ [])
first-solved = record {
  chosen = chosen_rule (codes "q") [] 0 rule_pq;
  assignment = [];
  expression = implication;
  top = None;
  of_statement = refl;
  by_candidates = refl;
  filled = (refl, tt);
  assigned = (tt, tt);
  corresponds = refl;
  top_holds = tt;
}

first-visit : IsVisit question_q (0 ∷ [])
first-visit = record {
  parent = [];
  last = 0;
  longer = refl;
  choices = (inr refl, tt);
  live = inl refl;
  no_later = λ choices s a. absurd (none-solves choices a.whole s);
}

second-visit : IsVisit question_q (0 ∷ 0 ∷ [])
second-visit = record {
  parent = 0 ∷ [];
  last = 0;
  longer = refl;
  choices = (inr refl, (refl, refl));
  live = inr first-solved;
  no_later = λ choices s a. absurd (none-solves choices a.whole s);
}

is-visit : (prefix : List ℕ) → IsIn prefix two → IsVisit question_q prefix
is-visit prefix (inl e) = subst (IsVisit question_q) (sym e) first-visit
is-visit prefix (inr (inl e)) = subst (IsVisit question_q) (sym e) second-visit
is-visit prefix (inr (inr e)) = absurd e

visits-are : (prefix : List ℕ) → Contains two prefix → IsVisit question_q prefix
visits-are prefix c = is-visit prefix (in_at two prefix c.0 c.1 c.2)

first-choice : (i : ℕ) → IsChoice question_q.rules (codes "q") [] i → i ≡ 0
first-choice i (inl h) = h.1
first-choice i (inr h) = one rule_pq i h

listed-from : (prefix : List ℕ) → AreChoices question_q ((codes "q", []) ∷ []) prefix → (prefix ≡ [] → ⊥) → Contains two prefix
listed-from [] h n = absurd (n refl)
listed-from (i ∷ []) h n = (0, omega arith, (λ z. sym (first-choice i h.0) z ∷ []))
listed-from (i ∷ j ∷ rest) h n = (1, omega arith, (λ z. sym (first-choice i h.0) z ∷ sym (one (equality bool) j h.1.0) z ∷ sym h.1.1 z))

not-empty : (xs : List ℕ) (x : ℕ) → [] ≡ xs ++ x ∷ [] → ⊥
not-empty [] x e = cc
not-empty (y ∷ xs) x e = cc

visits-listed : (prefix : List ℕ) → IsVisit question_q prefix → Contains two prefix
visits-listed prefix v = listed-from prefix v.choices (λ e. not-empty v.parent v.last (sym e ∙ v.longer))

not-in : (xs : List (List ℕ)) (x : List ℕ) → (IsIn x xs → ⊥) → Contains xs x → ⊥
not-in xs x h c = h (in_at xs x c.0 c.1 c.2)

none-first : IsIn {A = List ℕ} (0 ∷ []) ((0 ∷ 0 ∷ []) ∷ []) → ⊥
none-first (inl e) = cc
none-first (inr e) = e

different : AreDifferent two
different = (not-in ((0 ∷ 0 ∷ []) ∷ []) (0 ∷ []) none-first, (not-in [] (0 ∷ 0 ∷ []) (λ e. e), tt))

two-visits : HasVisits question_q 2
two-visits = (two, refl, different, λ prefix. (visits-are prefix, visits-listed prefix))

pub no-image : HasNoImage question_q 100
no-image = ((2, two-visits, omega arith), none-solves)
