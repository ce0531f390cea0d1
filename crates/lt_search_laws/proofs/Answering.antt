-- The three laws of one prefix.
use Rattle.std.proofs.Common.{◌≡◌, ℕ, ◌+◌, List, [], ◌∷◌, ◌++◌, length, Option, refl, subst, sym, ap, ◌∙◌}
use Rattle.std.proofs.lemmas.List.{length-append}
use Rattle.lt_transport_definitions.specs.Relations.{Relation}
use Rattle.lt_transport_definitions.specs.Candidates.{occurrences}
use Rattle.lt_transport_definitions.specs.Correspondence.{ChosenStatement, statement_of, numbers_of, AreCandidates, rule_relations, binder_relations}
use Rattle.lt_transport_definitions.specs.Search.{Question, AreFilled, Solution, relations_of}
use Rattle.lt_transport_laws.proofs.Sides.{EachBelow}
use Rattle.lt_transport_laws.proofs.Choices.{append-both, numbers-length, same-chosen, filled-unique}
use Rattle.lt_transport_laws.proofs.LeastSolutions.{each_below-append, rules-below, binders-below}
use Rattle.lt_search_laws.specs.Slots.{NoneUnifiesNone, LiveWhereSidesHold, LeastByEquality}
use Rattle.lt_search_laws.proofs.Over.{Over, solution_over, solution_of}
use Rattle.lt_search_laws.proofs.Live.{none-over, over-least, least-below, over-sides}

pub none-unifies-none : NoneUnifiesNone
none-unifies-none q prefix K top τ posed none s =
    none-over q prefix K top τ posed none (solution_over q prefix K top posed.of_statement posed.candidates posed.filled s)

pub live-where-sides : LiveWhereSidesHold
live-where-sides q prefix K top τ posed bs r is = (
  (λ s. over-sides q prefix K top τ posed bs r is (solution_over q prefix K top posed.of_statement posed.candidates posed.filled s)),
  (λ h. solution_of q prefix K top posed.of_statement posed.candidates posed.filled (over-least q prefix K top τ posed bs r is h)),
)

-- a solution, with its relations, over other chosen candidates
record OverWith (q : Question) (K : ChosenStatement) (top : Option ℕ) (us : List Relation) : Type 0 where
  over : Over q K top
  relations_are : rule_relations K over.assignment ++ binder_relations K over.assignment ≡ us

over_with : (q : Question) (prefix : List ℕ) (K : ChosenStatement) (top : Option ℕ) → statement_of K ≡ q.statement → AreCandidates q.rules K → AreFilled (numbers_of K ++ top ∷ []) prefix
    → (s : Solution q prefix) → OverWith q K top (relations_of s)
over_with q prefix K top is by filled s =
    let e : statement_of s.chosen ≡ statement_of K = s.of_statement ∙ sym is in
    let n : length (numbers_of s.chosen) ≡ length (numbers_of K) = numbers-length s.chosen ∙ ap (λ u. length (occurrences u)) e ∙ sym (numbers-length K) in
    let f = filled-unique (numbers_of s.chosen ++ s.top ∷ []) (numbers_of K ++ top ∷ []) prefix
    (length-append (numbers_of s.chosen) (s.top ∷ []) ∙ ap (λ m. m + 1) n ∙ sym (length-append (numbers_of K) (top ∷ []))) s.filled filled in
    let both = append-both (numbers_of s.chosen) (s.top ∷ []) (numbers_of K) (top ∷ []) n f in
    let tops : s.top ≡ top = cc (both.1) in
    let start : Over q s.chosen s.top = record { assignment = s.assignment; expression = s.expression; assigned = s.assigned; corresponds = s.corresponds; top_holds = s.top_holds } in
    subst (λ L. OverWith q L top (relations_of s)) (same-chosen q.rules s.chosen K e both.0 s.by_candidates by)
    (subst (λ o. OverWith q s.chosen o (relations_of s)) tops (record { over = start; relations_are = refl }))

pub least-by-equality : LeastByEquality
least-by-equality q prefix K top τ posed bs r is sides =
    let o = over-least q prefix K top τ posed bs r is sides in
    let s : Solution q prefix = solution_of q prefix K top posed.of_statement posed.candidates posed.filled o in (
      s,
      (λ other.
          let w = over_with q prefix K top posed.of_statement posed.candidates posed.filled other in
          let b = least-below q prefix K top τ posed bs r is w.over in
          subst (EachBelow q.registry (relations_of s)) w.relations_are
          (each_below-append q.registry (rule_relations K o.assignment) (rule_relations K w.over.assignment) (binder_relations K o.assignment) (binder_relations K w.over.assignment)
          (rules-below q.registry K o.assignment w.over.assignment b) (binders-below q.registry K o.assignment w.over.assignment b))),
      refl,
      refl,
    )
