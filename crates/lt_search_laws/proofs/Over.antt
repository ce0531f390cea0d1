-- The solutions of a prefix are those over its chosen candidates.
use Rattle.std.proofs.Common.{◌≡◌, ℕ, ◌+◌, List, [], ◌∷◌, ◌++◌, length, Option, subst, sym, ap, ◌∙◌}
use Rattle.std.proofs.lemmas.List.{length-append}
use Rattle.lt_transport_definitions.specs.Relations.{Relation}
use Rattle.lt_transport_definitions.specs.Candidates.{occurrences}
use Rattle.lt_transport_definitions.specs.Correspondence.{ChosenStatement, Assignment, statement_of, numbers_of, AreCandidates, IsAssignment, Corresponds}
use Rattle.lt_transport_definitions.specs.Search.{Question, AreFilled, TopHolds, Solution}
use Rattle.lt_transport_laws.proofs.Choices.{append-both, numbers-length, same-chosen, filled-unique}

pub record Over (q : Question) (K : ChosenStatement) (top : Option ℕ) : Type 0 where
  pub assignment : Assignment K
  pub expression : Relation
  pub assigned : IsAssignment q.registry q.signature K assignment
  pub corresponds : Corresponds q.registry q.signature [] K assignment expression
  pub top_holds : TopHolds q.top top expression

pub solution_over : (q : Question) (prefix : List ℕ) (K : ChosenStatement) (top : Option ℕ) → statement_of K ≡ q.statement → AreCandidates q.rules K → AreFilled (numbers_of K ++ top ∷ []) prefix
    → Solution q prefix → Over q K top
solution_over q prefix K top is by filled s =
    let e : statement_of s.chosen ≡ statement_of K = s.of_statement ∙ sym is in
    let n : length (numbers_of s.chosen) ≡ length (numbers_of K) = numbers-length s.chosen ∙ ap (λ u. length (occurrences u)) e ∙ sym (numbers-length K) in
    let f = filled-unique (numbers_of s.chosen ++ s.top ∷ []) (numbers_of K ++ top ∷ []) prefix
    (length-append (numbers_of s.chosen) (s.top ∷ []) ∙ ap (λ m. m + 1) n ∙ sym (length-append (numbers_of K) (top ∷ []))) s.filled filled in
    let both = append-both (numbers_of s.chosen) (s.top ∷ []) (numbers_of K) (top ∷ []) n f in
    let tops : s.top ≡ top = cc (both.1) in
    let start : Over q s.chosen s.top = record { assignment = s.assignment; expression = s.expression; assigned = s.assigned; corresponds = s.corresponds; top_holds = s.top_holds } in
    subst (λ L. Over q L top) (same-chosen q.rules s.chosen K e both.0 s.by_candidates by) (subst (Over q s.chosen) tops start)

abbrev pub solution_of : (q : Question) (prefix : List ℕ) (K : ChosenStatement) (top : Option ℕ) → statement_of K ≡ q.statement → AreCandidates q.rules K → AreFilled (numbers_of K ++ top ∷ []) prefix
    → Over q K top → Solution q prefix
solution_of q prefix K top is by filled o = record {
  chosen = K;
  assignment = o.assignment;
  expression = o.expression;
  top = top;
  of_statement = is;
  by_candidates = by;
  filled = filled;
  assigned = o.assigned;
  corresponds = o.corresponds;
  top_holds = o.top_holds;
}
