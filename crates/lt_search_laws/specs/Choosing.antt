-- The statement with the candidates that a choice list names, and what one number more adds to its equations.
use Rattle.std.specs.Prelude.{◌≡◌, ℕ, suc, zero, ◌+◌, ◌≤◌, List, [], ◌∷◌, ◌++◌, Option, Some, None, slice_get, true, length, take, drop}
use Rattle.lt_definitions.specs.Types.{Chars, TypeTree}
use Rattle.lt_definitions.specs.Terms.{TermTree, free_variable, bound_name, constant, application, abstraction, is_closed}
use Rattle.lt_definitions.specs.Typing.{Signature}
use Rattle.lt_transport_definitions.specs.Relations.{Relation, Registry}
use Rattle.lt_transport_definitions.specs.Expressions.{normal_equality}
use Rattle.lt_transport_definitions.specs.RuleForm.{TransferRule}
use Rattle.lt_transport_definitions.specs.Candidates.{type_at, occurrences, candidates}
use Rattle.lt_transport_definitions.specs.Correspondence.{ChosenStatement, chosen_name, chosen_rule, chosen_equality, not_chosen, chosen_application, chosen_abstraction, statement_of, numbers_of, AreCandidates}
use Rattle.lt_transport_definitions.specs.Search.{Question, AreFilled, AreChoices}
use Rattle.lt_search_laws.specs.Equations.{size, rule_slots, rule_instance, choices_at}
use Rattle.lt_search_laws.specs.Slots.{numbered_variable}

-- a constant with the rule that is chosen, or with equality where there is none
abbrev pub candidate_at : Option TransferRule → Chars → List TypeTree → ℕ → ChosenStatement
candidate_at None c ts i = chosen_equality c ts
candidate_at (Some rule) c ts i = chosen_rule c ts i rule

-- the statement with the candidates that numbers name, an argument's before its head's; numbers past the last are no matter
abbrev pub choose : List TransferRule → TermTree → List ℕ → ChosenStatement
choose rules (free_variable x t) p = chosen_name x
choose rules (bound_name x) p = chosen_name x
choose rules (constant c ts) [] = not_chosen c ts
choose rules (constant c ts) (i ∷ p) = candidate_at (slice_get (candidates rules c ts) i) c ts i
choose rules (application f a) p =
    chosen_application (choose rules f (drop (length (occurrences a)) p))
    (choose rules a (take (length (occurrences a)) p))
choose rules (abstraction x t b) p = chosen_abstraction x t (choose rules b p)

-- the number behind the first so many, which is that of the top
abbrev pub number_behind : ℕ → List ℕ → Option ℕ
number_behind n [] = None
number_behind zero (i ∷ p) = Some i
number_behind (suc n) (i ∷ p) = number_behind n p

-- the places of the constants, an argument's before its head's
abbrev pub places : ℕ → TermTree → List ℕ
places k (free_variable x t) = []
places k (bound_name x) = []
places k (constant c ts) = k ∷ []
places k (application f a) = places (k + size f) a ++ places k f
places k (abstraction x t b) = places k b

-- the equation of a candidate: its node's variable is the rule's relation, over variables from a number on, or equality
abbrev pub candidate_equation : Registry → Signature → ℕ → ℕ → Option TransferRule → Chars → List TypeTree → Relation × Relation
candidate_equation G sig n m None c ts = (numbered_variable n, normal_equality G (type_at sig c ts))
candidate_equation G sig n m (Some rule) c ts = (numbered_variable n, rule_instance G numbered_variable m ts rule)

-- how many variables a candidate adds
abbrev pub candidate_slots : Option TransferRule → ℕ
candidate_slots None = 0
candidate_slots (Some rule) = length rule.variables

-- A choice list gives a statement with its candidates, and one number more adds one equation at the end.
pub record ChoicesGrow : Type 0 where
  pub of_statement : (rules : List TransferRule) (t : TermTree) (p : List ℕ) → is_closed t ≡ true → statement_of (choose rules t p) ≡ t
  pub by_candidates : (q : Question) (p : List ℕ) → AreChoices q (occurrences q.statement) p → AreCandidates q.rules (choose q.rules q.statement p)
  pub filled : (q : Question) (p : List ℕ) → AreChoices q (occurrences q.statement) p
      → AreFilled (numbers_of (choose q.rules q.statement p) ++ number_behind (length (occurrences q.statement)) p ∷ []) p
  pub grown : (G : Registry) (sig : Signature) (rules : List TransferRule) (t : TermTree) (k m : ℕ) (p : List ℕ) (i n : ℕ) (c : Chars) (ts : List TypeTree)
      → slice_get (places k t) (length p) ≡ Some n → slice_get (occurrences t) (length p) ≡ Some (c, ts)
      → choices_at G sig numbered_variable k m (choose rules t (p ++ i ∷ []))
      ≡ choices_at G sig numbered_variable k m (choose rules t p)
      ++ candidate_equation G sig n (m + rule_slots (choose rules t p)) (slice_get (candidates rules c ts) i) c ts ∷ []
  pub past : (rules : List TransferRule) (t : TermTree) (p : List ℕ) (i : ℕ) → length (occurrences t) ≤ length p
      → choose rules t (p ++ i ∷ []) ≡ choose rules t p
