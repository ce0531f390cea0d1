-- The search for the image of a bounded quantifier, with its six visits.
use Rattle.std.specs.Prelude.{◌≡◌, ◌⊎◌, ℕ, zero, suc, List, [], ◌∷◌, ◌++◌, Option, Some, None, length, slice_get, IsSome, Contains, codes}
use Rattle.std.specs.Fmt.{digits}
use Rattle.std.proofs.Common.{refl, subst, sym, ap, ◌∙◌, inl, inr, arith}
use Rattle.lt_definitions.specs.Types.{bool}
use Rattle.lt_transport_definitions.specs.Relations.{Relation, equality, built_in_registry}
use Rattle.lt_transport_definitions.specs.Expressions.{function_relator, implication}
use Rattle.lt_transport_definitions.specs.Below.{Side}
use Rattle.lt_transport_definitions.specs.RuleForm.{TransferRule}
use Rattle.lt_transport_definitions.specs.Candidates.{occurrences, IsChoice}
use Rattle.lt_transport_definitions.specs.Correspondence.{ChosenStatement, chosen_name, chosen_application, chosen_abstraction, chosen_rule, not_chosen, Assignment, numbers_of, AreCandidates, IsAssignment, Corresponds}
use Rattle.lt_transport_definitions.specs.Search.{Solution, IsWhole, IsLeast, IsBefore, IsAnswer, IsLive, AreFilled, TopHolds, AreChoices, IsVisit, AreDifferent, equal}
use Rattle.lt_transport_laws.specs.Statements.{IsRegistry}
use Rattle.lt_transport_laws.specs.SearchSamples.{rule_all}
use Rattle.lt_transport_laws.specs.BoundedSamples.{t, relation_t, registry_t, rule_k, rule_implies, rule_bounded, question_bounded}
use Rattle.lt_transport_laws.proofs.Rows.{IsIn}
use Rattle.lt_transport_laws.proofs.Choices.{same-chosen, numbers-length}
use Rattle.lt_transport_laws.proofs.LeastSolutions.{least_solution}
use Rattle.lt_transport_laws.proofs.Unique.{answers_one}
use Rattle.lt_transport_laws.proofs.Exclusive.{in_at}
use Rattle.lt_transport_laws.proofs.BuiltIn.{built-in}
use Rattle.lt_transport_laws.proofs.RegistryLemmas.{sound-registry, registry-sound}

-- k by its rule, with this choice for the quantifier
abbrev quantified : ChosenStatement → ChosenStatement
quantified head = chosen_application head
    (chosen_abstraction (codes "x") t (chosen_application (chosen_rule (codes "k") [] 0 rule_k) (chosen_name (codes "x"))))

-- the quantifier by the candidate with a number
abbrev chosen_by : ℕ → TransferRule → ChosenStatement
chosen_by i rule = quantified (chosen_rule (codes "all") (t ∷ []) i rule)

-- (cr_t ===> eq) ===> eq
abbrev over_predicates : Relation
over_predicates = function_relator (function_relator relation_t (equality bool)) (equality bool)

pub bounded_solved : Solution question_bounded (0 ∷ 2 ∷ 0 ∷ [])
unfolding digits
bounded_solved = record {
  chosen = chosen_by 2 rule_bounded;
  assignment = (relation_t ∷ [], (relation_t, ([], tt)));
  expression = equality bool;
  top = Some 0;
  of_statement = refl;
  by_candidates = (refl, (refl, tt));
  filled = (refl, (refl, (refl, tt)));
  assigned = (((((refl, refl, refl), tt), refl, tt), (inr tt, tt)), (((refl, refl, refl), tt), refl, ((tt, tt), tt)));
  corresponds = (_, (_, refl, (_, refl, refl)), refl);
  top_holds = refl;
}

-- the prefixes of one and of two choices
one_solved : Solution question_bounded (0 ∷ [])
unfolding digits
one_solved = record {
  chosen = quantified (not_chosen (codes "all") (t ∷ []));
  assignment = (over_predicates, (relation_t, ([], tt)));
  expression = equality bool;
  top = None;
  of_statement = refl;
  by_candidates = (tt, (refl, tt));
  filled = (refl, tt);
  assigned = (((refl, ((refl, (((refl, refl, refl), tt), (refl, tt))), (refl, tt))), refl), (((refl, refl, refl), tt), refl, ((tt, tt), tt)));
  corresponds = (_, (_, refl, (_, refl, refl)), refl);
  top_holds = tt;
}

implied_solved : Solution question_bounded (0 ∷ 1 ∷ [])
unfolding digits
implied_solved = record {
  chosen = chosen_by 1 rule_implies;
  assignment = (relation_t ∷ [], (relation_t, ([], tt)));
  expression = implication;
  top = None;
  of_statement = refl;
  by_candidates = (refl, (refl, tt));
  filled = (refl, (refl, tt));
  assigned = (((((refl, refl, refl), tt), refl, tt), (inr tt, tt)), (((refl, refl, refl), tt), refl, ((tt, tt), tt)));
  corresponds = (_, (_, refl, (_, refl, refl)), refl);
  top_holds = tt;
}

equal_solved : Solution question_bounded (0 ∷ 2 ∷ [])
unfolding digits
equal_solved = record {
  chosen = chosen_by 2 rule_bounded;
  assignment = (relation_t ∷ [], (relation_t, ([], tt)));
  expression = equality bool;
  top = None;
  of_statement = refl;
  by_candidates = (refl, (refl, tt));
  filled = (refl, (refl, tt));
  assigned = (((((refl, refl, refl), tt), refl, tt), (inr tt, tt)), (((refl, refl, refl), tt), refl, ((tt, tt), tt)));
  corresponds = (_, (_, refl, (_, refl, refl)), refl);
  top_holds = tt;
}

-- two places that are filled, and what is behind them

two-filled : (ns : List (Option ℕ)) (top : Option ℕ) (i j : ℕ) (rest : List ℕ) → length ns ≡ 2 → AreFilled (ns ++ top ∷ []) (i ∷ j ∷ rest)
    → (ns ≡ Some i ∷ Some j ∷ []) × AreFilled (top ∷ []) rest
two-filled [] top i j rest l h = absurd (omega arith)
two-filled (n ∷ []) top i j rest l h = absurd (omega arith)
two-filled (n ∷ m ∷ k ∷ ns) top i j rest l h = absurd (omega arith)
two-filled (None ∷ m ∷ []) top i j rest l h = absurd h
two-filled (Some n ∷ None ∷ []) top i j rest l h = absurd h.1
two-filled (Some n ∷ Some m ∷ []) top i j rest l h = ((λ z. Some (h.0 z) ∷ Some (h.1.0 z) ∷ []), h.1.1)

top-filled : (top : Option ℕ) (k : ℕ) → AreFilled (top ∷ []) (k ∷ []) → top ≡ Some k
top-filled (Some i) k h = ap Some h.0
top-filled None k h = absurd h

-- a solution chooses k's rule and the quantifier's candidate with this number
chosen-is : (j : ℕ) (rest : List ℕ) (rule : TransferRule) → AreCandidates question_bounded.rules (chosen_by j rule)
    → (w : Solution question_bounded (0 ∷ j ∷ rest)) → (chosen_by j rule ≡ w.chosen) × AreFilled (w.top ∷ []) rest
unfolding digits
chosen-is j rest rule c w =
    let n : length (numbers_of w.chosen) ≡ 2 = numbers-length w.chosen ∙ ap (λ u. length (occurrences u)) w.of_statement in
    let f = two-filled (numbers_of w.chosen) w.top 0 j rest n w.filled in
    (same-chosen question_bounded.rules (chosen_by j rule) w.chosen (sym w.of_statement) (sym f.0) c w.by_candidates, f.1)

-- under a rule of the quantifier its relation variable is cr_t
variable-is : (a b s r u e : Relation) → r ≡ function_relator b s → b ≡ u → function_relator u s ≡ function_relator relation_t (equality bool)
    → (v : Relation) → function_relator r e ≡ function_relator (function_relator a (equality bool)) v → (a ≡ relation_t) × (e ≡ v)
variable-is a b s r u e x y z v w =
    let p : r ≡ function_relator a (equality bool) = cc in
    let q : e ≡ v = cc in
    let k : function_relator a (equality bool) ≡ function_relator b s = sym p ∙ x in
    let l : a ≡ b = cc in
    let m : u ≡ relation_t = cc in
    (l ∙ y ∙ m, q)

some-same : (b r : Relation) → ◌≡◌ {A = Option Relation} (Some b) (Some r) → b ≡ r
some-same b r e = cc

-- cr_t has no rule for bi_total
not-bi-total : Side registry_t relation_t (codes "bi_total") → ⊥
unfolding digits
not-bi-total (inl e) = cc
not-bi-total (inr h) = h

no-total : (v : Assignment (chosen_by 0 rule_all)) (e : Relation) → IsAssignment registry_t question_bounded.signature (chosen_by 0 rule_all) v
    → Corresponds registry_t question_bounded.signature [] (chosen_by 0 rule_all) v e → ⊥
unfolding digits
no-total ([], v) e h c = absurd h.0.0
no-total (a ∷ w ∷ vs, v) e h c = absurd h.0.0.2
no-total (a ∷ [], v) e h c =
    let k = variable-is a v.0 c.1.0 c.0 c.1.2.0 e c.1.1 (some-same v.0 c.1.2.0 c.1.2.1) c.1.2.2 (equality bool) c.2 in
    not-bi-total (subst (λ (r : Relation). Side registry_t r (codes "bi_total")) k.0 h.0.1.0)

only-implied : (v : Assignment (chosen_by 1 rule_implies)) (e : Relation) → IsAssignment registry_t question_bounded.signature (chosen_by 1 rule_implies) v
    → Corresponds registry_t question_bounded.signature [] (chosen_by 1 rule_implies) v e → e ≡ implication
unfolding digits
only-implied ([], v) e h c = absurd h.0.0
only-implied (a ∷ w ∷ vs, v) e h c = absurd h.0.0.2
only-implied (a ∷ [], v) e h c =
    (variable-is a v.0 c.1.0 c.0 c.1.2.0 e c.1.1 (some-same v.0 c.1.2.0 c.1.2.1) c.1.2.2 implication c.2).1

-- the first candidate has no solution
first-dead : (rest : List ℕ) → Solution question_bounded (0 ∷ 0 ∷ rest) → ⊥
unfolding digits
first-dead rest w = subst (λ (L : ChosenStatement). (v : Assignment L) (e : Relation) → IsAssignment registry_t question_bounded.signature L v
    → Corresponds registry_t question_bounded.signature [] L v e → ⊥) (chosen-is 0 rest rule_all (refl, (refl, tt)) w).0 no-total
    w.assignment w.expression w.assigned w.corresponds

top-not : (k : ℕ) (e : Relation) → e ≡ implication → slice_get (equality bool ∷ []) k ≡ Some e → ⊥
top-not zero e x h = let y : equality bool ≡ e = some-same (equality bool) e h in equality-not (y ∙ x)
  where
    equality-not : equality bool ≡ implication → ⊥
    equality-not e = cc
top-not (suc k) e x h = none-not e h
  where
    none-not : (e : Relation) → ◌≡◌ {A = Option Relation} None (Some e) → ⊥
    none-not e h = cc

-- the second has none with the top
second-dead : (k : ℕ) → Solution question_bounded (0 ∷ 1 ∷ k ∷ []) → ⊥
unfolding digits
second-dead k w =
    let c = chosen-is 1 (k ∷ []) rule_implies (refl, (refl, tt)) w in
    let e : w.expression ≡ implication = subst (λ (L : ChosenStatement). (v : Assignment L) (e : Relation)
    → IsAssignment registry_t question_bounded.signature L v → Corresponds registry_t question_bounded.signature [] L v e → e ≡ implication)
    c.0 only-implied w.assignment w.expression w.assigned w.corresponds in
    top-not k w.expression e (subst (λ (o : Option ℕ). TopHolds equal o w.expression) (top-filled w.top k c.1) w.top_holds)

-- the answer

registry : IsRegistry registry_t
registry = sound-registry registry_t (registry-sound built_in_registry built-in)

whole : IsWhole question_bounded (0 ∷ 2 ∷ 0 ∷ [])
unfolding digits
whole = refl

pub least : (s : Solution question_bounded (0 ∷ 2 ∷ 0 ∷ [])) × IsLeast s
least = least_solution question_bounded (0 ∷ 2 ∷ 0 ∷ []) registry whole bounded_solved

comes-first : (others : List ℕ) → length others ≡ 3 → Solution question_bounded others → ((0 ∷ 2 ∷ 0 ∷ []) ≡ others) ⊎ IsBefore (0 ∷ 2 ∷ 0 ∷ []) others
comes-first [] l w = absurd (omega arith)
comes-first (i ∷ []) l w = absurd (omega arith)
comes-first (i ∷ j ∷ []) l w = absurd (omega arith)
comes-first (i ∷ j ∷ k ∷ m ∷ rest) l w = absurd (omega arith)
comes-first (suc i ∷ j ∷ k ∷ []) l w = inr (inl (omega arith))
comes-first (zero ∷ zero ∷ k ∷ []) l w = absurd (first-dead (k ∷ []) w)
comes-first (zero ∷ suc zero ∷ k ∷ []) l w = absurd (second-dead k w)
comes-first (zero ∷ suc (suc zero) ∷ zero ∷ []) l w = inl refl
comes-first (zero ∷ suc (suc zero) ∷ suc k ∷ []) l w = inr (inr (refl, inr (refl, inl (omega arith))))
comes-first (zero ∷ suc (suc (suc j)) ∷ k ∷ []) l w = inr (inr (refl, inl (omega arith)))

pub answer : IsAnswer question_bounded (0 ∷ 2 ∷ 0 ∷ []) least.0
unfolding digits
answer = record { whole = whole; least = least.1; first = λ others w s. comes-first others w s }

-- each answer has this choice list
answers-same : (choices : List ℕ) (s : Solution question_bounded choices) → IsAnswer question_bounded choices s → (0 ∷ 2 ∷ 0 ∷ []) ≡ choices
answers-same choices s a = (answers_one question_bounded registry (0 ∷ 2 ∷ 0 ∷ []) choices least.0 s answer a).0

-- the six visits
abbrev pub six : List (List ℕ)
six = (0 ∷ []) ∷ (0 ∷ 0 ∷ []) ∷ (0 ∷ 1 ∷ []) ∷ (0 ∷ 2 ∷ []) ∷ (0 ∷ 1 ∷ 0 ∷ []) ∷ (0 ∷ 2 ∷ 0 ∷ []) ∷ []

-- a prefix that comes before the answer
before : (prefix : List ℕ) → IsBefore prefix (0 ∷ 2 ∷ 0 ∷ []) → (choices : List ℕ) (s : Solution question_bounded choices)
    → IsAnswer question_bounded choices s → IsBefore prefix choices
before prefix h choices s a = subst (IsBefore prefix) (answers-same choices s a) h

visit_0 : IsVisit question_bounded (0 ∷ [])
unfolding digits
visit_0 = record {
  parent = [];
  last = 0;
  longer = refl;
  choices = (inr refl, tt);
  live = inl refl;
  no_later = λ choices s a. inl (2 ∷ 0 ∷ [], answers-same choices s a);
}

visit_00 : IsVisit question_bounded (0 ∷ 0 ∷ [])
unfolding digits
visit_00 = record {
  parent = 0 ∷ [];
  last = 0;
  longer = refl;
  choices = (inr refl, (inr refl, tt));
  live = inr one_solved;
  no_later = λ choices s a. inr (before (0 ∷ 0 ∷ []) (inr (refl, inl (omega arith))) choices s a);
}

visit_01 : IsVisit question_bounded (0 ∷ 1 ∷ [])
unfolding digits
visit_01 = record {
  parent = 0 ∷ [];
  last = 1;
  longer = refl;
  choices = (inr refl, (inr refl, tt));
  live = inr one_solved;
  no_later = λ choices s a. inr (before (0 ∷ 1 ∷ []) (inr (refl, inl (omega arith))) choices s a);
}

visit_02 : IsVisit question_bounded (0 ∷ 2 ∷ [])
unfolding digits
visit_02 = record {
  parent = 0 ∷ [];
  last = 2;
  longer = refl;
  choices = (inr refl, (inr refl, tt));
  live = inr one_solved;
  no_later = λ choices s a. inl (0 ∷ [], answers-same choices s a);
}

visit_010 : IsVisit question_bounded (0 ∷ 1 ∷ 0 ∷ [])
unfolding digits
visit_010 = record {
  parent = 0 ∷ 1 ∷ [];
  last = 0;
  longer = refl;
  choices = (inr refl, (inr refl, (refl, refl)));
  live = inr implied_solved;
  no_later = λ choices s a. inr (before (0 ∷ 1 ∷ 0 ∷ []) (inr (refl, inl (omega arith))) choices s a);
}

visit_020 : IsVisit question_bounded (0 ∷ 2 ∷ 0 ∷ [])
unfolding digits
visit_020 = record {
  parent = 0 ∷ 2 ∷ [];
  last = 0;
  longer = refl;
  choices = (inr refl, (inr refl, (refl, refl)));
  live = inr equal_solved;
  no_later = λ choices s a. inl ([], answers-same choices s a);
}

is-visit : (prefix : List ℕ) → IsIn prefix six → IsVisit question_bounded prefix
is-visit prefix (inl e) = subst (IsVisit question_bounded) (sym e) visit_0
is-visit prefix (inr (inl e)) = subst (IsVisit question_bounded) (sym e) visit_00
is-visit prefix (inr (inr (inl e))) = subst (IsVisit question_bounded) (sym e) visit_01
is-visit prefix (inr (inr (inr (inl e)))) = subst (IsVisit question_bounded) (sym e) visit_02
is-visit prefix (inr (inr (inr (inr (inl e))))) = subst (IsVisit question_bounded) (sym e) visit_010
is-visit prefix (inr (inr (inr (inr (inr (inl e)))))) = subst (IsVisit question_bounded) (sym e) visit_020
is-visit prefix (inr (inr (inr (inr (inr (inr e)))))) = absurd e

pub visits-are : (prefix : List ℕ) → Contains six prefix → IsVisit question_bounded prefix
visits-are prefix c = is-visit prefix (in_at six prefix c.0 c.1 c.2)

-- each visit is one of them

one-of : {A : Type 0} (x : A) (i : ℕ) → IsSome (slice_get (x ∷ []) i) → i ≡ 0
one-of x zero h = refl
one-of x (suc i) h = absurd (cc)

three-of : {A : Type 0} (x y z : A) (i : ℕ) → IsSome (slice_get (x ∷ y ∷ z ∷ []) i) → (i ≡ 0) ⊎ (i ≡ 1) ⊎ (i ≡ 2)
three-of x y z zero h = inl refl
three-of x y z (suc zero) h = inr (inl refl)
three-of x y z (suc (suc zero)) h = inr (inr refl)
three-of x y z (suc (suc (suc i))) h = absurd (cc)

k-choice : (i : ℕ) → IsChoice question_bounded.rules (codes "k") [] i → i ≡ 0
unfolding digits
k-choice i (inl h) = h.1
k-choice i (inr h) = one-of rule_k i h

all-choice : (i : ℕ) → IsChoice question_bounded.rules (codes "all") (t ∷ []) i → (i ≡ 0) ⊎ (i ≡ 1) ⊎ (i ≡ 2)
unfolding digits
all-choice i (inl h) = inl h.1
all-choice i (inr h) = three-of rule_all rule_implies rule_bounded i h

contains : (prefix other : List ℕ) → Contains six other → other ≡ prefix → Contains six prefix
contains prefix other c e = subst (Contains six) e c

two-listed : (i j : ℕ) → i ≡ 0 → (j ≡ 0) ⊎ (j ≡ 1) ⊎ (j ≡ 2) → Contains six (i ∷ j ∷ [])
two-listed i j e (inl f) = contains (i ∷ j ∷ []) (0 ∷ 0 ∷ []) (1, omega arith, refl) (λ z. sym e z ∷ sym f z ∷ [])
two-listed i j e (inr (inl f)) = contains (i ∷ j ∷ []) (0 ∷ 1 ∷ []) (2, omega arith, refl) (λ z. sym e z ∷ sym f z ∷ [])
two-listed i j e (inr (inr f)) = contains (i ∷ j ∷ []) (0 ∷ 2 ∷ []) (3, omega arith, refl) (λ z. sym e z ∷ sym f z ∷ [])

three-listed : (i j k : ℕ) → i ≡ 0 → (j ≡ 0) ⊎ (j ≡ 1) ⊎ (j ≡ 2) → k ≡ 0 → Solution question_bounded (i ∷ j ∷ []) → Contains six (i ∷ j ∷ k ∷ [])
three-listed i j k e (inl f) g w = absurd (first-dead [] (subst (Solution question_bounded) (λ z. e z ∷ f z ∷ []) w))
three-listed i j k e (inr (inl f)) g w =
    contains (i ∷ j ∷ k ∷ []) (0 ∷ 1 ∷ 0 ∷ []) (4, omega arith, refl) (λ z. sym e z ∷ sym f z ∷ sym g z ∷ [])
three-listed i j k e (inr (inr f)) g w =
    contains (i ∷ j ∷ k ∷ []) (0 ∷ 2 ∷ 0 ∷ []) (5, omega arith, refl) (λ z. sym e z ∷ sym f z ∷ sym g z ∷ [])

-- the parent of a prefix of three
parent-is : (i j k last : ℕ) (parent : List ℕ) → i ∷ j ∷ k ∷ [] ≡ parent ++ last ∷ [] → parent ≡ i ∷ j ∷ []
parent-is i j k last [] e = absurd (cc)
parent-is i j k last (x ∷ []) e = absurd (cc)
parent-is i j k last (x ∷ y ∷ []) e = let p : i ≡ x = cc in let q : j ≡ y = cc in (λ z. sym p z ∷ sym q z ∷ [])
parent-is i j k last (x ∷ y ∷ w ∷ []) e = absurd (cc)
parent-is i j k last (x ∷ y ∷ w ∷ v ∷ rest) e = absurd (cc)

live-two : (i j : ℕ) → IsLive question_bounded (i ∷ j ∷ []) → Solution question_bounded (i ∷ j ∷ [])
live-two i j (inl e) = absurd (cc)
live-two i j (inr w) = w

listed-from : (prefix : List ℕ) → AreChoices question_bounded ((codes "k", []) ∷ (codes "all", t ∷ []) ∷ []) prefix → (v : IsVisit question_bounded prefix)
    → Contains six prefix
listed-from [] h v = absurd (not-empty v.parent v.last v.longer)
  where
    not-empty : (xs : List ℕ) (x : ℕ) → [] ≡ xs ++ x ∷ [] → ⊥
    not-empty [] x e = cc
    not-empty (y ∷ xs) x e = cc
listed-from (i ∷ []) h v = contains (i ∷ []) (0 ∷ []) (0, omega arith, refl) (λ z. sym (k-choice i h.0) z ∷ [])
listed-from (i ∷ j ∷ []) h v = two-listed i j (k-choice i h.0) (all-choice j h.1.0)
listed-from (i ∷ j ∷ k ∷ []) h v = three-listed i j k (k-choice i h.0) (all-choice j h.1.0) (one-of (equality bool) k h.1.1.0)
    (live-two i j (subst (IsLive question_bounded) (parent-is i j k v.last v.parent v.longer) v.live))
listed-from (i ∷ j ∷ k ∷ l ∷ rest) h v = absurd (longer h.1.1.1)
  where
    longer : l ∷ rest ≡ [] → ⊥
    longer e = cc

pub visits-listed : (prefix : List ℕ) → IsVisit question_bounded prefix → Contains six prefix
unfolding digits
visits-listed prefix v = listed-from prefix v.choices v

-- they are different

abbrev second : List ℕ → ℕ
second (i ∷ j ∷ rest) = j
second _ = 9

abbrev third : List ℕ → ℕ
third (i ∷ j ∷ k ∷ rest) = k
third _ = 9

not-in : (xs : List (List ℕ)) (x : List ℕ) → (IsIn x xs → ⊥) → Contains xs x → ⊥
not-in xs x h c = h (in_at xs x c.0 c.1 c.2)

by-second : (xs ys : List ℕ) → (second xs ≡ second ys → ⊥) → xs ≡ ys → ⊥
by-second xs ys n e = n (ap second e)

by-third : (xs ys : List ℕ) → (third xs ≡ third ys → ⊥) → xs ≡ ys → ⊥
by-third xs ys n e = n (ap third e)

none_0 : IsIn {A = List ℕ} (0 ∷ []) ((0 ∷ 0 ∷ []) ∷ (0 ∷ 1 ∷ []) ∷ (0 ∷ 2 ∷ []) ∷ (0 ∷ 1 ∷ 0 ∷ []) ∷ (0 ∷ 2 ∷ 0 ∷ []) ∷ []) → ⊥
none_0 (inl e) = by-second (0 ∷ []) (0 ∷ 0 ∷ []) (λ x. let y : 9 ≡ 0 = x in omega arith) e
none_0 (inr (inl e)) = by-second (0 ∷ []) (0 ∷ 1 ∷ []) (λ x. let y : 9 ≡ 1 = x in omega arith) e
none_0 (inr (inr (inl e))) = by-second (0 ∷ []) (0 ∷ 2 ∷ []) (λ x. let y : 9 ≡ 2 = x in omega arith) e
none_0 (inr (inr (inr (inl e)))) = by-second (0 ∷ []) (0 ∷ 1 ∷ 0 ∷ []) (λ x. let y : 9 ≡ 1 = x in omega arith) e
none_0 (inr (inr (inr (inr (inl e))))) = by-second (0 ∷ []) (0 ∷ 2 ∷ 0 ∷ []) (λ x. let y : 9 ≡ 2 = x in omega arith) e
none_0 (inr (inr (inr (inr (inr e))))) = e

none_1 : IsIn {A = List ℕ} (0 ∷ 0 ∷ []) ((0 ∷ 1 ∷ []) ∷ (0 ∷ 2 ∷ []) ∷ (0 ∷ 1 ∷ 0 ∷ []) ∷ (0 ∷ 2 ∷ 0 ∷ []) ∷ []) → ⊥
none_1 (inl e) = by-second (0 ∷ 0 ∷ []) (0 ∷ 1 ∷ []) (λ x. let y : 0 ≡ 1 = x in omega arith) e
none_1 (inr (inl e)) = by-second (0 ∷ 0 ∷ []) (0 ∷ 2 ∷ []) (λ x. let y : 0 ≡ 2 = x in omega arith) e
none_1 (inr (inr (inl e))) = by-second (0 ∷ 0 ∷ []) (0 ∷ 1 ∷ 0 ∷ []) (λ x. let y : 0 ≡ 1 = x in omega arith) e
none_1 (inr (inr (inr (inl e)))) = by-second (0 ∷ 0 ∷ []) (0 ∷ 2 ∷ 0 ∷ []) (λ x. let y : 0 ≡ 2 = x in omega arith) e
none_1 (inr (inr (inr (inr e)))) = e

none_2 : IsIn {A = List ℕ} (0 ∷ 1 ∷ []) ((0 ∷ 2 ∷ []) ∷ (0 ∷ 1 ∷ 0 ∷ []) ∷ (0 ∷ 2 ∷ 0 ∷ []) ∷ []) → ⊥
none_2 (inl e) = by-second (0 ∷ 1 ∷ []) (0 ∷ 2 ∷ []) (λ x. let y : 1 ≡ 2 = x in omega arith) e
none_2 (inr (inl e)) = by-third (0 ∷ 1 ∷ []) (0 ∷ 1 ∷ 0 ∷ []) (λ x. let y : 9 ≡ 0 = x in omega arith) e
none_2 (inr (inr (inl e))) = by-second (0 ∷ 1 ∷ []) (0 ∷ 2 ∷ 0 ∷ []) (λ x. let y : 1 ≡ 2 = x in omega arith) e
none_2 (inr (inr (inr e))) = e

none_3 : IsIn {A = List ℕ} (0 ∷ 2 ∷ []) ((0 ∷ 1 ∷ 0 ∷ []) ∷ (0 ∷ 2 ∷ 0 ∷ []) ∷ []) → ⊥
none_3 (inl e) = by-second (0 ∷ 2 ∷ []) (0 ∷ 1 ∷ 0 ∷ []) (λ x. let y : 2 ≡ 1 = x in omega arith) e
none_3 (inr (inl e)) = by-third (0 ∷ 2 ∷ []) (0 ∷ 2 ∷ 0 ∷ []) (λ x. let y : 9 ≡ 0 = x in omega arith) e
none_3 (inr (inr e)) = e

none_4 : IsIn {A = List ℕ} (0 ∷ 1 ∷ 0 ∷ []) ((0 ∷ 2 ∷ 0 ∷ []) ∷ []) → ⊥
none_4 (inl e) = by-second (0 ∷ 1 ∷ 0 ∷ []) (0 ∷ 2 ∷ 0 ∷ []) (λ x. let y : 1 ≡ 2 = x in omega arith) e
none_4 (inr e) = e

none_5 : IsIn {A = List ℕ} (0 ∷ 2 ∷ 0 ∷ []) [] → ⊥
none_5 e = e

pub different : AreDifferent six
different = (not-in ((0 ∷ 0 ∷ []) ∷ (0 ∷ 1 ∷ []) ∷ (0 ∷ 2 ∷ []) ∷ (0 ∷ 1 ∷ 0 ∷ []) ∷ (0 ∷ 2 ∷ 0 ∷ []) ∷ []) (0 ∷ []) none_0, (not-in ((0 ∷ 1 ∷ []) ∷ (0 ∷ 2 ∷ []) ∷ (0 ∷ 1 ∷ 0 ∷ []) ∷ (0 ∷ 2 ∷ 0 ∷ []) ∷ []) (0 ∷ 0 ∷ []) none_1, (not-in ((0 ∷ 2 ∷ []) ∷ (0 ∷ 1 ∷ 0 ∷ []) ∷ (0 ∷ 2 ∷ 0 ∷ []) ∷ []) (0 ∷ 1 ∷ []) none_2, (not-in ((0 ∷ 1 ∷ 0 ∷ []) ∷ (0 ∷ 2 ∷ 0 ∷ []) ∷ []) (0 ∷ 2 ∷ []) none_3, (not-in ((0 ∷ 2 ∷ 0 ∷ []) ∷ []) (0 ∷ 1 ∷ 0 ∷ []) none_4, (not-in [] (0 ∷ 2 ∷ 0 ∷ []) none_5, tt))))))
