-- The types of numbered variables, the equations of a prefix, and its side conditions.
use Rattle.std.specs.Prelude.{◌≡◌, ℕ, suc, ◌+◌, List, [], ◌∷◌, ◌++◌, Option, Some, None, slice_get, Bool, ◌↔◌}
use Rattle.lt_definitions.specs.Types.{Chars, found, TypeTree, type_variable, bool, fun, TypeMap, type_instance}
use Rattle.lt_definitions.specs.Terms.{TermTree, free_variable, bound_name, constant, application, abstraction}
use Rattle.lt_definitions.specs.Typing.{Signature, HasType}
use Rattle.lt_transport_definitions.specs.Relations.{Relation, relation_variable, relation_row, RelationVariable, Registry}
use Rattle.lt_transport_definitions.specs.Expressions.{right, normal_equality, IsExpression, implication}
use Rattle.lt_transport_definitions.specs.Below.{EachHolds, SideAt}
use Rattle.lt_transport_definitions.specs.Candidates.{type_at, match_of}
use Rattle.lt_transport_definitions.specs.Correspondence.{ChosenStatement, chosen_name, chosen_rule, chosen_equality, not_chosen, chosen_application, chosen_abstraction, Assignment, statement_of, numbers_of, AreCandidates, rule_relations, binder_relations}
use Rattle.lt_transport_definitions.specs.Search.{Top, Question, top_candidates, AreFilled, Solution, relations_of, IsLeast}
use Rattle.lt_unify.specs.Tree.{Tree, apply}
use Rattle.lt_unify.specs.Solutions.{solution, Solves, AllRelated, Respects, IsSimplifiable}
use Rattle.lt_transport_laws.specs.Statements.{IsRegistry, AreTyped}
use Rattle.lt_search_laws.specs.Equations.{under, size, rule_slots, reading, expression_at, structure_at, choices_at}
use Rattle.lt_search_laws.specs.RelationTrees.{relation_tree, equation_trees, AllUnified}

-- the variables from a number on have the types of a rule's variables at a match
abbrev pub SlotsOf : (ℕ → TypeTree) → ℕ → TypeMap → List RelationVariable → Type 0
SlotsOf τ n m [] = Unit {0}
SlotsOf τ n m (x ∷ xs) = (τ n ≡ type_instance m (type_variable x.right_name)) × SlotsOf τ (suc n) m xs

-- A statement of a type under names with their types: the variables of its nodes, numbered from a number on, have the
-- types of what they stand for, which is the bound name's for an abstraction.
abbrev pub HasNodes : Signature → (ℕ → TypeTree) → ℕ → List (Chars × TypeTree) → TermTree → TypeTree → Type 0
HasNodes sig τ k env (free_variable x u) ty = ⊥
HasNodes sig τ k env (bound_name x) ty = (found x env ≡ Some ty) × (τ k ≡ ty)
HasNodes sig τ k env (constant c ts) ty = (type_at sig c ts ≡ ty) × (τ k ≡ ty)
HasNodes sig τ k env (application f a) ty =
    (from : TypeTree) × (τ (k + size f + size a) ≡ ty) × HasNodes sig τ k env f (fun from ty) × HasNodes sig τ (k + size f) env a from
HasNodes sig τ k env (abstraction x u b) ty =
    (to : TypeTree) × (fun u to ≡ ty) × (τ (k + size b) ≡ u) × HasNodes sig τ k ((x, u) ∷ env) b to

-- The variables of the chosen rules, from a number on, have their types.
abbrev pub HasChoices : (ℕ → TypeTree) → ℕ → ChosenStatement → Type 0
HasChoices τ m (chosen_name x) = Unit {0}
HasChoices τ m (chosen_rule c ts i rule) = SlotsOf τ m (match_of rule ts) rule.variables
HasChoices τ m (chosen_equality c ts) = Unit {0}
HasChoices τ m (not_chosen c ts) = Unit {0}
HasChoices τ m (chosen_application f a) = HasChoices τ m a × HasChoices τ (m + rule_slots a) f
HasChoices τ m (chosen_abstraction x u b) = HasChoices τ m b

-- the variable with a number: what type it carries counts for nothing
abbrev pub numbered_variable : ℕ → Relation
numbered_variable n = relation_variable n bool

-- the equation of the top, if it is chosen
abbrev pub top_equation : Option Relation → Relation → List (Relation × Relation)
top_equation None e = []
top_equation (Some t) e = (e, t) ∷ []

abbrev pub chosen_top : Top → Option ℕ → Option Relation
chosen_top top None = None
chosen_top top (Some i) = slice_get (top_candidates top) i

-- the number of the first rule's first variable
abbrev pub first_slot : ChosenStatement → ℕ
first_slot K = size (statement_of K)

-- the expression of the whole statement
abbrev pub whole_expression : ChosenStatement → Relation
whole_expression K = expression_at numbered_variable 0 [] (statement_of K)

-- the equations of a prefix: those of the applications, those of the chosen candidates, and that of the top
abbrev pub prefix_equations : Question → ChosenStatement → Option ℕ → List (Relation × Relation)
prefix_equations q K top = structure_at numbered_variable 0 [] (statement_of K)
    ++ (choices_at q.registry q.signature numbered_variable 0 (first_slot K) K ++ top_equation (chosen_top q.top top) (whole_expression K))

-- the side conditions of the chosen rules
abbrev pub SidesHold : Registry → (K : ChosenStatement) → Assignment K → Type 0
SidesHold G (chosen_name x) v = Unit {0}
SidesHold G (chosen_rule c ts i rule) v = EachHolds rule.sides (SideAt G (relation_row v))
SidesHold G (chosen_equality c ts) v = Unit {0}
SidesHold G (not_chosen c ts) v = Unit {0}
SidesHold G (chosen_application f a) v = SidesHold G f v.0 × SidesHold G a v.1
SidesHold G (chosen_abstraction x ty b) v = SidesHold G b v.1

-- Bindings that were found for equations: their solutions are those of the equations, and they keep each test of right types.
pub record IsSolvedBy (es : List (Tree × Tree)) (bs : List (ℕ × Tree)) : Type 0 where
  pub general : (s : ℕ → Tree) → Solves s bs ↔ AllUnified s es
  pub related : (p : Tree → Tree → Bool) → IsSimplifiable p → AllRelated p es → Respects p bs

-- no substitution solves the equations
abbrev pub NoneUnifies : List (Tree × Tree) → Type 0
NoneUnifies es = (s : ℕ → Tree) → AllUnified s es → ⊥

-- the assignment that is left by putting equality for what stays open in what each variable is resolved to
abbrev pub put_equality : Registry → (ℕ → TypeTree) → (ℕ → Relation) → ℕ → Relation
put_equality G τ r n = under (λ k. normal_equality G (τ k)) (r n)

-- The candidate of the top is there, if it is chosen.
abbrev pub IsTop : Top → Option ℕ → Type 0
IsTop top None = Unit {0}
IsTop top (Some i) = (t : Relation) × (slice_get (top_candidates top) i ≡ Some t)

-- A prefix of a question: what is chosen at each occurrence and at the top, and the types of its numbered variables.
pub record IsPosed (q : Question) (prefix : List ℕ) (K : ChosenStatement) (top : Option ℕ) (τ : ℕ → TypeTree) : Type 0 where
  pub registry : IsRegistry q.registry
  pub implies : IsExpression q.registry implication × (right q.registry implication ≡ bool)
  pub rules : AreTyped q.registry q.signature q.rules
  pub of_statement : statement_of K ≡ q.statement
  pub candidates : AreCandidates q.rules K
  pub top_there : IsTop q.top top
  pub filled : AreFilled (numbers_of K ++ top ∷ []) prefix
  pub typed_nodes : HasNodes q.signature τ 0 [] (statement_of K) bool
  pub typed_choices : HasChoices τ (first_slot K) K

-- The expressions are those that the bindings found for the equations resolve the variables to.
pub record IsResolved (es : List (Tree × Tree)) (bs : List (ℕ × Tree)) (r : ℕ → Relation) : Type 0 where
  pub found_for : IsSolvedBy es bs
  pub solves : Solves (solution bs) bs
  pub general_of : (s : ℕ → Tree) → Solves s bs → (t : Tree) → apply s t ≡ apply s (apply (solution bs) t)
  pub resolved : (n : ℕ) → relation_tree (r n) ≡ solution bs n

-- Where no substitution solves the equations of a prefix, it has no solution.
abbrev pub NoneUnifiesNone : Type 0
NoneUnifiesNone = (q : Question) (prefix : List ℕ) (K : ChosenStatement) (top : Option ℕ) (τ : ℕ → TypeTree) → IsPosed q prefix K top τ
    → NoneUnifies (equation_trees (prefix_equations q K top)) → Solution q prefix → ⊥

-- Where bindings solve them, a prefix has a solution just where the side conditions hold at what is left by putting equality.
abbrev pub LiveWhereSidesHold : Type 0
LiveWhereSidesHold = (q : Question) (prefix : List ℕ) (K : ChosenStatement) (top : Option ℕ) (τ : ℕ → TypeTree) → IsPosed q prefix K top τ
    → (bs : List (ℕ × Tree)) (r : ℕ → Relation) → IsResolved (equation_trees (prefix_equations q K top)) bs r
    → Solution q prefix ↔ SidesHold q.registry K (reading (put_equality q.registry τ r) 0 (first_slot K) K)

-- And then the solution that is left by putting equality is the least.
abbrev pub LeastByEquality : Type 0
LeastByEquality = (q : Question) (prefix : List ℕ) (K : ChosenStatement) (top : Option ℕ) (τ : ℕ → TypeTree) → IsPosed q prefix K top τ
    → (bs : List (ℕ × Tree)) (r : ℕ → Relation) → IsResolved (equation_trees (prefix_equations q K top)) bs r
    → SidesHold q.registry K (reading (put_equality q.registry τ r) 0 (first_slot K) K)
    → (s : Solution q prefix) × IsLeast s × (s.chosen ≡ K)
    × (relations_of s ≡ rule_relations K (reading (put_equality q.registry τ r) 0 (first_slot K) K) ++ binder_relations K (reading (put_equality q.registry τ r) 0 (first_slot K) K))

-- A typed statement has types for its numbered variables.
abbrev pub SlotsAreThere : Type 0
SlotsAreThere = (sig : Signature) (K : ChosenStatement) (ty : TypeTree) → HasType sig [] (statement_of K) ty
    → (τ : ℕ → TypeTree) × HasNodes sig τ 0 [] (statement_of K) ty × HasChoices τ (first_slot K) K
