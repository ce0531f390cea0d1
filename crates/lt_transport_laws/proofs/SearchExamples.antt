-- What the examples of searches rest on.
use Rattle.std.specs.Prelude.{◌≡◌, ◌⊎◌, ℕ, zero, suc, List, [], ◌∷◌, ◌++◌, Some, None, length, slice_get, IsSome, Contains, codes}
use Rattle.std.specs.Fmt.{digits}
use Rattle.std.proofs.Common.{refl, subst, sym, ap, ◌∙◌, inl, inr, arith}
use Rattle.lt_definitions.specs.Samples.{con, app}
use Rattle.lt_definitions.specs.Types.{bool}
use Rattle.lt_transport_definitions.specs.Relations.{Relation, equality, relation_row, built_in_registry}
use Rattle.lt_transport_definitions.specs.Expressions.{right, function_relator}
use Rattle.lt_transport_definitions.specs.Below.{AreBelow}
use Rattle.lt_transport_definitions.specs.Candidates.{occurrences, match_of, IsChoice}
use Rattle.lt_transport_definitions.specs.Correspondence.{ChosenStatement, chosen_application, chosen_abstraction, chosen_rule, chosen_equality, not_chosen, Assignment, numbers_of, AreValues, IsAssignment, rule_relations, binder_relations}
use Rattle.lt_transport_definitions.specs.Search.{Solution, IsWhole, IsLeast, IsBefore, IsAnswer, AreChoices, IsVisit, AreDifferent, relations_of, image_by}
use Rattle.lt_transport_definitions.specs.Samples.{question_s_z, rule_az, rule_ps, relation_r, law_signature}
use Rattle.lt_transport_laws.specs.Statements.{IsRegistry}
use Rattle.lt_transport_laws.proofs.Rows.{IsIn}
use Rattle.lt_transport_laws.proofs.Choices.{same-chosen, append-both, numbers-length}
use Rattle.lt_transport_laws.proofs.LeastSolutions.{numbers-same, least_solution}
use Rattle.lt_transport_laws.proofs.Unique.{answers_one}
use Rattle.lt_transport_laws.proofs.Exclusive.{in_at}
use Rattle.lt_transport_laws.proofs.BuiltIn.{built-in}
use Rattle.lt_transport_laws.proofs.RegistryLemmas.{sound-registry, registry-sound}
use Rattle.lt_transport_laws.specs.SearchSamples.{int, rule_all, always_true, question_true, first_choices}

-- The rules az for z and ps for s.
pub solved : Solution question_s_z first_choices
unfolding digits
solved = record {
  chosen = chosen_application (chosen_rule (codes "s") [] 0 rule_ps) (chosen_rule (codes "z") [] 0 rule_az);
  assignment = ([], []);
  expression = equality bool;
  top = Some 0;
  of_statement = refl;
  by_candidates = (refl, refl);
  filled = (refl, (refl, (refl, tt)));
  assigned = ((tt, tt), (tt, tt));
  corresponds = (relation_r, refl, refl);
  top_holds = refl;
}

pub solution : (w : Solution question_s_z first_choices) × IsWhole question_s_z first_choices × (image_by w ≡ app (con "p") (con "a"))
unfolding digits solved
solution = (solved, refl, refl)

-- Equality for the relation variable and for the binder.
pub solved_true : Solution question_true first_choices
unfolding digits
solved_true = record {
  chosen = chosen_application (chosen_rule (codes "all") (int ∷ []) 0 rule_all) (chosen_abstraction (codes "x") int (chosen_equality (codes "true") []));
  assignment = (equality int ∷ [], (equality int, tt));
  expression = equality bool;
  top = Some 0;
  of_statement = refl;
  by_candidates = (refl, refl);
  filled = (refl, (refl, (refl, tt)));
  assigned = (((refl, refl, tt), (tt, tt)), (refl, refl, tt));
  corresponds = (_, (_, refl, refl), refl);
  top_holds = refl;
}

-- what is assigned has the right types, so equality is below it
base : (vs : List Relation) (b : Relation) → AreValues built_in_registry (match_of rule_all (int ∷ [])) rule_all.variables vs → right built_in_registry b ≡ int
    → AreBelow built_in_registry (relation_row (equality int ∷ equality int ∷ [])) (relation_row (vs ++ b ∷ []))
base [] b h k = absurd h
base (v ∷ []) b h k = ((sym h.1, refl), ((sym k, refl), tt))
base (v ∷ u ∷ vs) b h k = absurd h.2

assigned-below : (L : ChosenStatement) → solved_true.chosen ≡ L → (w : Assignment L) → IsAssignment built_in_registry law_signature L w
    → AreBelow built_in_registry (relation_row (equality int ∷ equality int ∷ [])) (relation_row (rule_relations L w ++ binder_relations L w))
unfolding solved_true
assigned-below L e = subst (λ M. (w : Assignment M) → IsAssignment built_in_registry law_signature M w
    → AreBelow built_in_registry (relation_row (equality int ∷ equality int ∷ [])) (relation_row (rule_relations M w ++ binder_relations M w))) e
    (λ w h. base w.0 w.1.0 h.0.0 h.1.1)

pub least-true : IsLeast solved_true
unfolding solved_true
least-true other =
    let n : length (numbers_of solved_true.chosen) ≡ length (numbers_of other.chosen) =
    numbers-length solved_true.chosen ∙ ap (λ u. length (occurrences u)) (solved_true.of_statement ∙ sym other.of_statement) ∙ sym (numbers-length other.chosen) in
    let both = append-both (numbers_of solved_true.chosen) (solved_true.top ∷ []) (numbers_of other.chosen) (other.top ∷ []) n
    (numbers-same question_true first_choices solved_true other) in
    let same : solved_true.chosen ≡ other.chosen = same-chosen (rule_all ∷ []) solved_true.chosen other.chosen (solved_true.of_statement ∙ sym other.of_statement) both.0
    solved_true.by_candidates other.by_candidates in
    assigned-below other.chosen same other.assignment other.assigned

pub least-solution : (w : Solution question_true first_choices) × IsLeast w × (relations_of w ≡ equality int ∷ equality int ∷ []) × (image_by w ≡ always_true)
unfolding digits solved_true
least-solution = (solved_true, least-true, refl, refl)

-- the first of the lists of a length
abbrev pub zeros : ℕ → List ℕ
zeros zero = []
zeros (suc n) = 0 ∷ zeros n

pub zeros-first : (n : ℕ) (others : List ℕ) → length others ≡ n → (zeros n ≡ others) ⊎ IsBefore (zeros n) others
zeros-first zero [] e = inl refl
zeros-first zero (x ∷ xs) e = absurd (omega arith)
zeros-first (suc n) [] e = absurd (omega arith)
zeros-first (suc n) (zero ∷ xs) e = elim (zeros-first n xs (omega arith)) [
  | inl p ↦ inl (ap (λ ys. 0 ∷ ys) p)
  | inr b ↦ inr (inr (refl, b))
]
zeros-first (suc n) (suc x ∷ xs) e = inr (inl (omega arith))

registry : IsRegistry question_s_z.registry
registry = sound-registry question_s_z.registry (registry-sound built_in_registry built-in)

whole : IsWhole question_s_z first_choices
whole = refl

least : (s : Solution question_s_z first_choices) × IsLeast s
least = least_solution question_s_z first_choices registry whole solved

answer : IsAnswer question_s_z first_choices least.0
answer = record { whole = whole; least = least.1; first = λ others w t. zeros-first 3 others w }

-- each answer has the first choice list
answers-first : (choices : List ℕ) (s : Solution question_s_z choices) → IsAnswer question_s_z choices s → first_choices ≡ choices
answers-first choices s a = (answers_one question_s_z registry first_choices choices least.0 s answer a).0

-- solutions of its prefixes
first_solved : Solution question_s_z (0 ∷ [])
unfolding digits
first_solved = record {
  chosen = chosen_application (not_chosen (codes "s") []) (chosen_rule (codes "z") [] 0 rule_az);
  assignment = (function_relator relation_r (equality bool), []);
  expression = equality bool;
  top = None;
  of_statement = refl;
  by_candidates = (tt, refl);
  filled = (refl, tt);
  assigned = (((refl, (((refl, refl, refl), tt), (refl, tt))), refl), (tt, tt));
  corresponds = (relation_r, refl, refl);
  top_holds = tt;
}

second_solved : Solution question_s_z (0 ∷ 0 ∷ [])
unfolding digits
second_solved = record {
  chosen = chosen_application (chosen_rule (codes "s") [] 0 rule_ps) (chosen_rule (codes "z") [] 0 rule_az);
  assignment = ([], []);
  expression = equality bool;
  top = None;
  of_statement = refl;
  by_candidates = (refl, refl);
  filled = (refl, (refl, tt));
  assigned = ((tt, tt), (tt, tt));
  corresponds = (relation_r, refl, refl);
  top_holds = tt;
}

-- the three visits
abbrev pub three : List (List ℕ)
three = (0 ∷ []) ∷ (0 ∷ 0 ∷ []) ∷ (0 ∷ 0 ∷ 0 ∷ []) ∷ []

first_visit : IsVisit question_s_z (0 ∷ [])
unfolding digits
first_visit = record {
  parent = [];
  last = 0;
  longer = refl;
  choices = (inr refl, tt);
  live = inl refl;
  no_later = λ choices s a. inl (0 ∷ 0 ∷ [], answers-first choices s a);
}

second_visit : IsVisit question_s_z (0 ∷ 0 ∷ [])
unfolding digits
second_visit = record {
  parent = 0 ∷ [];
  last = 0;
  longer = refl;
  choices = (inr refl, (inr refl, tt));
  live = inr first_solved;
  no_later = λ choices s a. inl (0 ∷ [], answers-first choices s a);
}

third_visit : IsVisit question_s_z (0 ∷ 0 ∷ 0 ∷ [])
unfolding digits
third_visit = record {
  parent = 0 ∷ 0 ∷ [];
  last = 0;
  longer = refl;
  choices = (inr refl, (inr refl, (refl, refl)));
  live = inr second_solved;
  no_later = λ choices s a. inl ([], answers-first choices s a);
}

is-visit : (prefix : List ℕ) → IsIn prefix three → IsVisit question_s_z prefix
is-visit prefix (inl e) = subst (IsVisit question_s_z) (sym e) first_visit
is-visit prefix (inr (inl e)) = subst (IsVisit question_s_z) (sym e) second_visit
is-visit prefix (inr (inr (inl e))) = subst (IsVisit question_s_z) (sym e) third_visit
is-visit prefix (inr (inr (inr e))) = absurd e

pub visits-are : (prefix : List ℕ) → Contains three prefix → IsVisit question_s_z prefix
visits-are prefix c = is-visit prefix (in_at three prefix c.0 c.1 c.2)

-- where a constant has one candidate, its number is 0
one : {A : Type 0} (x : A) (i : ℕ) → IsSome (slice_get (x ∷ []) i) → i ≡ 0
one x zero h = refl
one x (suc i) h = absurd (cc)

no_none : {A : Type 0} (x : A) → ◌≡◌ {A = List A} (x ∷ []) [] → ⊥
no_none x e = cc

first_choice : (i : ℕ) → IsChoice question_s_z.rules (codes "z") [] i → i ≡ 0
unfolding digits
first_choice i (inl h) = h.1
first_choice i (inr h) = one rule_az i h

second_choice : (i : ℕ) → IsChoice question_s_z.rules (codes "s") [] i → i ≡ 0
unfolding digits
second_choice i (inl h) = h.1
second_choice i (inr h) = one rule_ps i h

listed-from : (prefix : List ℕ) → AreChoices question_s_z ((codes "z", []) ∷ (codes "s", []) ∷ []) prefix → (prefix ≡ [] → ⊥) → Contains three prefix
listed-from [] h n = absurd (n refl)
listed-from (i ∷ []) h n = (0, omega arith, (λ z. sym (first_choice i h.0) z ∷ []))
listed-from (i ∷ j ∷ []) h n = (1, omega arith, (λ z. sym (first_choice i h.0) z ∷ sym (second_choice j h.1.0) z ∷ []))
listed-from (i ∷ j ∷ k ∷ rest) h n =
    (2, omega arith, (λ z. sym (first_choice i h.0) z ∷ sym (second_choice j h.1.0) z ∷ sym (one (equality bool) k h.1.1.0) z ∷ sym h.1.1.1 z))

not-empty : (xs : List ℕ) (x : ℕ) → [] ≡ xs ++ x ∷ [] → ⊥
not-empty [] x e = cc
not-empty (y ∷ xs) x e = cc

pub visits-listed : (prefix : List ℕ) → IsVisit question_s_z prefix → Contains three prefix
visits-listed prefix v = listed-from prefix v.choices (λ e. not-empty v.parent v.last (sym e ∙ v.longer))

not-in : (xs : List (List ℕ)) (x : List ℕ) → (IsIn x xs → ⊥) → Contains xs x → ⊥
not-in xs x h c = h (in_at xs x c.0 c.1 c.2)

none-first : IsIn {A = List ℕ} (0 ∷ []) ((0 ∷ 0 ∷ []) ∷ (0 ∷ 0 ∷ 0 ∷ []) ∷ []) → ⊥
none-first (inl e) = cc
none-first (inr (inl e)) = cc
none-first (inr (inr e)) = e

none-second : IsIn {A = List ℕ} (0 ∷ 0 ∷ []) ((0 ∷ 0 ∷ 0 ∷ []) ∷ []) → ⊥
none-second (inl e) = cc
none-second (inr e) = e

pub different : AreDifferent three
different = (
  not-in ((0 ∷ 0 ∷ []) ∷ (0 ∷ 0 ∷ 0 ∷ []) ∷ []) (0 ∷ []) none-first,
  (not-in ((0 ∷ 0 ∷ 0 ∷ []) ∷ []) (0 ∷ 0 ∷ []) none-second, (not-in [] (0 ∷ 0 ∷ 0 ∷ []) (λ e. e), tt)),
)
