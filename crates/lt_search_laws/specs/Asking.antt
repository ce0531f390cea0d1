-- What a search asks of its question, the equations of the prefix that numbers name, and what one number more adds.
use Rattle.std.specs.Prelude.{◌≡◌, ℕ, ◌+◌, List, [], ◌∷◌, ◌++◌, Option, Some, slice_get, true, length}
use Rattle.lt_definitions.specs.Types.{Chars, TypeTree, bool}
use Rattle.lt_definitions.specs.Terms.{is_closed}
use Rattle.lt_definitions.specs.Typing.{HasType}
use Rattle.lt_transport_definitions.specs.Relations.{Relation}
use Rattle.lt_transport_definitions.specs.Expressions.{right, IsExpression, implication}
use Rattle.lt_transport_definitions.specs.Candidates.{occurrences, candidates}
use Rattle.lt_transport_definitions.specs.Correspondence.{ChosenStatement}
use Rattle.lt_transport_definitions.specs.Search.{Question, Solution, top_candidates, AreChoices}
use Rattle.lt_unify.specs.Tree.{Tree}
use Rattle.lt_unify.specs.Solutions.{IsMostGeneral, HasNoUnifier, KeepsRelations}
use Rattle.lt_search_laws.specs.RelationTrees.{relation_tree, equation_trees}
use Rattle.lt_search_laws.specs.Equations.{size, rule_slots, expression_at}
use Rattle.lt_search_laws.specs.Slots.{numbered_variable, prefix_equations, HasNodes, HasChoices, IsPosed, IsSolvedBy}
use Rattle.lt_search_laws.specs.Choosing.{choose, number_behind, places, candidate_equation}
use Rattle.lt_search_laws.specs.Walk.{IsSound}

-- The registry has imp, the rules are typed, and the statement is closed and boolean.
pub record IsAsked (q : Question) : Type 0 where
  pub sound : IsSound q
  pub implies : IsExpression q.registry implication × (right q.registry implication ≡ bool)
  pub closed : is_closed q.statement ≡ true
  pub boolean : HasType q.signature [] q.statement bool

-- the statement with the candidates that numbers name, and the number of the top
abbrev pub chosen_of : Question → List ℕ → ChosenStatement
chosen_of q p = choose q.rules q.statement p

abbrev pub top_of : Question → List ℕ → Option ℕ
top_of q p = number_behind (length (occurrences q.statement)) p

abbrev pub equations_of : Question → List ℕ → List (Relation × Relation)
equations_of q p = prefix_equations q (chosen_of q p) (top_of q p)

-- The prefix that numbers name is posed, and one number more adds one equation at the end: that of its candidate, or of the top.
pub record PrefixesGrow : Type 0 where
  pub posed : (q : Question) → IsAsked q → (p : List ℕ) → AreChoices q (occurrences q.statement) p → (τ : ℕ → TypeTree)
      → HasNodes q.signature τ 0 [] q.statement bool → HasChoices τ (size q.statement) (chosen_of q p)
      → IsPosed q p (chosen_of q p) (top_of q p) τ
  pub occurrence : (q : Question) → is_closed q.statement ≡ true → (p : List ℕ) (i n : ℕ) (c : Chars) (ts : List TypeTree)
      → slice_get (places 0 q.statement) (length p) ≡ Some n → slice_get (occurrences q.statement) (length p) ≡ Some (c, ts)
      → equations_of q (p ++ i ∷ []) ≡ equations_of q p
      ++ candidate_equation q.registry q.signature n (size q.statement + rule_slots (chosen_of q p)) (slice_get (candidates q.rules c ts) i) c ts ∷ []
  pub top : (q : Question) → is_closed q.statement ≡ true → (p : List ℕ) (i : ℕ) (t : Relation) → length p ≡ length (occurrences q.statement)
      → slice_get (top_candidates q.top) i ≡ Some t
      → equations_of q (p ++ i ∷ []) ≡ equations_of q p ++ (expression_at numbered_variable 0 [] q.statement, t) ∷ []
  pub posed_so : (q : Question) → IsAsked q → (p : List ℕ) → AreChoices q (occurrences q.statement) p
      → (τ : ℕ → TypeTree) × IsPosed q p (chosen_of q p) (top_of q p) τ
  pub dead : (q : Question) → IsAsked q → (p : List ℕ) (i : ℕ) (e : Relation × Relation) (bs : List (ℕ × Tree))
      → AreChoices q (occurrences q.statement) (p ++ i ∷ []) → equations_of q (p ++ i ∷ []) ≡ equations_of q p ++ e ∷ []
      → IsSolvedBy (equation_trees (equations_of q p)) bs → HasNoUnifier bs (relation_tree e.0) (relation_tree e.1)
      → Solution q (p ++ i ∷ []) → ⊥
  pub gone_on : (q : Question) (p : List ℕ) (i : ℕ) (e : Relation × Relation) (old new : List (ℕ × Tree))
      → equations_of q (p ++ i ∷ []) ≡ equations_of q p ++ e ∷ [] → IsSolvedBy (equation_trees (equations_of q p)) old
      → IsMostGeneral old (relation_tree e.0) (relation_tree e.1) new → KeepsRelations old (relation_tree e.0) (relation_tree e.1) new
      → IsSolvedBy (equation_trees (equations_of q (p ++ i ∷ []))) new
