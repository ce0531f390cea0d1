-- A choice list that has a solution names candidates.
use Rattle.std.proofs.Common.{ℕ, ◌+◌, List, [], ◌∷◌, ◌++◌, Option, Some, None, refl, subst, sym, inl, inr}
use Rattle.std.specs.Prelude.{IsSome}
use Rattle.lt_definitions.specs.Types.{Chars, TypeTree}
use Rattle.lt_transport_definitions.specs.Relations.{Relation}
use Rattle.lt_transport_definitions.specs.RuleForm.{TransferRule}
use Rattle.lt_transport_definitions.specs.Candidates.{occurrences, IsChoice}
use Rattle.lt_transport_definitions.specs.Correspondence.{ChosenStatement, chosen_name, chosen_rule, chosen_equality, not_chosen, chosen_application, chosen_abstraction, statement_of, numbers_of, AreCandidates}
use Rattle.lt_transport_definitions.specs.Search.{Question, AreFilled, TopHolds, Solution, AreChoices}

-- each number is that of a candidate
abbrev NameCandidates : List TransferRule → List (Chars × List TypeTree) → List (Option ℕ) → Type 0
NameCandidates rules [] [] = Unit {0}
NameCandidates rules (o ∷ os) (Some i ∷ numbers) = IsChoice rules o.0 o.1 i × NameCandidates rules os numbers
NameCandidates rules (o ∷ os) (None ∷ numbers) = NameCandidates rules os numbers
NameCandidates rules _ _ = ⊥

candidates-append : (rules : List TransferRule) (os ps : List (Chars × List TypeTree)) (xs ys : List (Option ℕ)) → NameCandidates rules os xs → NameCandidates rules ps ys → NameCandidates rules (os ++ ps) (xs ++ ys)
candidates-append rules [] ps [] ys h k = k
candidates-append rules (o ∷ os) ps (Some i ∷ xs) ys h k = (h.0, candidates-append rules os ps xs ys h.1 k)
candidates-append rules (o ∷ os) ps (None ∷ xs) ys h k = candidates-append rules os ps xs ys h k
candidates-append rules [] ps (x ∷ xs) ys h k = absurd h
candidates-append rules (o ∷ os) ps [] ys h k = absurd h

chosen-candidates : (rules : List TransferRule) (K : ChosenStatement) → AreCandidates rules K → NameCandidates rules (occurrences (statement_of K)) (numbers_of K)
chosen-candidates rules (chosen_name x) h = tt
chosen-candidates rules (chosen_rule c ts i rule) h = (inr (subst (λ o. IsSome o) (sym h) refl), tt)
chosen-candidates rules (chosen_equality c ts) h = (inl (h, refl), tt)
chosen-candidates rules (not_chosen c ts) h = tt
chosen-candidates rules (chosen_application f a) h =
    candidates-append rules (occurrences (statement_of a)) (occurrences (statement_of f)) (numbers_of a) (numbers_of f) (chosen-candidates rules a h.1) (chosen-candidates rules f h.0)
chosen-candidates rules (chosen_abstraction x t b) h = chosen-candidates rules b h

pub none_filled : (q : Question) (os : List (Chars × List TypeTree)) → AreChoices q os []
none_filled q [] = tt
none_filled q (o ∷ os) = tt

filled-choices : (q : Question) (os : List (Chars × List TypeTree)) (xs : List (Option ℕ)) (top : Option ℕ) (e : Relation) (choices : List ℕ)
    → NameCandidates q.rules os xs → TopHolds q.top top e → AreFilled (xs ++ top ∷ []) choices → AreChoices q os choices
filled-choices q os xs top e [] h k f = none_filled q os
filled-choices q [] [] (Some i) e (j ∷ []) h k f = (subst (λ o. IsSome o) (sym (subst (λ n. TopHolds q.top (Some n) e) f.0 k)) refl, refl)
filled-choices q [] [] (Some i) e (j ∷ (l ∷ choices)) h k f = absurd f.1
filled-choices q [] [] None e (j ∷ choices) h k f = absurd f
filled-choices q [] (x ∷ xs) top e (j ∷ choices) h k f = absurd h
filled-choices q (o ∷ os) [] top e (j ∷ choices) h k f = absurd h
filled-choices q (o ∷ os) (Some i ∷ xs) top e (j ∷ choices) h k f = (subst (IsChoice q.rules o.0 o.1) f.0 h.0, filled-choices q os xs top e choices h.1 k f.1)
filled-choices q (o ∷ os) (None ∷ xs) top e (j ∷ choices) h k f = absurd f

pub solution-choices : (q : Question) (choices : List ℕ) → Solution q choices → AreChoices q (occurrences q.statement) choices
solution-choices q choices s =
    subst (λ t. AreChoices q (occurrences t) choices) s.of_statement
    (filled-choices q (occurrences (statement_of s.chosen)) (numbers_of s.chosen) s.top s.expression choices (chosen-candidates q.rules s.chosen s.by_candidates) s.top_holds s.filled)
