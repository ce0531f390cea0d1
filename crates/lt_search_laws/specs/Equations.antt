-- The equations of chosen candidates, over numbered variables: what a search hands to unification.
use Rattle.std.specs.Prelude.{unwrap_or, ◌≡◌, ℕ, suc, ◌+◌, List, [], ◌∷◌, ◌++◌, length}
use Rattle.lt_definitions.specs.Types.{Chars, TypeTree, found, bool}
use Rattle.lt_definitions.specs.Terms.{TermTree, free_variable, bound_name, constant, application, abstraction}
use Rattle.lt_definitions.specs.Typing.{Signature}
use Rattle.lt_transport_definitions.specs.Relations.{Relation, relation_variable, equality, constructed, Relations, no_relations, relation_and, RelationVariable, Registry}
use Rattle.lt_transport_definitions.specs.Expressions.{normal_equality, function_relator}
use Rattle.lt_transport_definitions.specs.RuleForm.{TransferRule}
use Rattle.lt_transport_definitions.specs.Candidates.{type_at, match_of}
use Rattle.lt_transport_definitions.specs.Correspondence.{ChosenStatement, chosen_name, chosen_rule, chosen_equality, not_chosen, chosen_application, chosen_abstraction, statement_of, Assignment, relation_instance}

-- an expression with each variable replaced by its number
abbrev mutual
  pub under : (ℕ → Relation) → Relation → Relation
  under s (relation_variable n t) = s n
  under s (equality t) = equality t
  under s (constructed c ts rs) = constructed c ts (all_under s rs)

  pub all_under : (ℕ → Relation) → Relations → Relations
  all_under s no_relations = no_relations
  all_under s (relation_and r rs) = relation_and (under s r) (all_under s rs)

-- how many nodes a statement has: each has a variable, whose number is the node's place, children before parents
abbrev pub size : TermTree → ℕ
size (free_variable x t) = 1
size (bound_name x) = 1
size (constant c ts) = 1
size (application f a) = suc (size f + size a)
size (abstraction x t b) = suc (size b)

-- how many variables the chosen rules have: they are numbered behind the nodes, an argument's before its head's
abbrev pub rule_slots : ChosenStatement → ℕ
rule_slots (chosen_name x) = 0
rule_slots (chosen_rule c ts i rule) = length rule.variables
rule_slots (chosen_equality c ts) = 0
rule_slots (not_chosen c ts) = 0
rule_slots (chosen_application f a) = rule_slots a + rule_slots f
rule_slots (chosen_abstraction x t b) = rule_slots b

-- so many numbers from one on
abbrev pub numbered : {A : Type 0} → (ℕ → A) → ℕ → List RelationVariable → List A
numbered s n [] = []
numbered s n (x ∷ xs) = s n ∷ numbered s (suc n) xs

-- the assignment that the variables give, those of nodes from one number on, those of rules from another one
abbrev pub reading : (ℕ → Relation) → ℕ → ℕ → (K : ChosenStatement) → Assignment K
reading s k m (chosen_name x) = tt
reading s k m (chosen_rule c ts i rule) = numbered s m rule.variables
reading s k m (chosen_equality c ts) = tt
reading s k m (not_chosen c ts) = s k
reading s k m (chosen_application f a) =
    (reading s k (m + rule_slots a) f, reading s (k + size (statement_of f)) m a)
reading s k m (chosen_abstraction x t b) = (s (k + size (statement_of b)), reading s k m b)

-- the expression beside a name, or equality where there is none
abbrev pub bound_in : List (Chars × Relation) → Chars → Relation
bound_in names x = unwrap_or (found x names) (equality bool)

-- the expression of a statement whose nodes are numbered from a number on, under names with theirs
abbrev pub expression_at : (ℕ → Relation) → ℕ → List (Chars × Relation) → TermTree → Relation
expression_at var k names (free_variable x t) = equality bool
expression_at var k names (bound_name x) = bound_in names x
expression_at var k names (constant c ts) = var k
expression_at var k names (application f a) = var (k + size f + size a)
expression_at var k names (abstraction x t b) =
    function_relator (var (k + size b)) (expression_at var k ((x, var (k + size b)) ∷ names) b)

-- the equation of an application
abbrev pub applied_equation : (ℕ → Relation) → ℕ → List (Chars × Relation) → TermTree → TermTree → Relation × Relation
applied_equation var k names f a = (
  expression_at var k names f,
  function_relator (expression_at var (k + size f) names a) (var (k + size f + size a)),
)

-- the equations that hold whatever is chosen: one for each application
abbrev pub structure_at : (ℕ → Relation) → ℕ → List (Chars × Relation) → TermTree → List (Relation × Relation)
structure_at var k names (free_variable x t) = []
structure_at var k names (bound_name x) = []
structure_at var k names (constant c ts) = []
structure_at var k names (application f a) =
    structure_at var k names f
    ++ (structure_at var (k + size f) names a ++ applied_equation var k names f a ∷ [])
structure_at var k names (abstraction x t b) = structure_at var k ((x, var (k + size b)) ∷ names) b

-- the relation of a rule at a match, over variables from a number on
abbrev pub rule_instance : Registry → (ℕ → Relation) → ℕ → List TypeTree → TransferRule → Relation
rule_instance G var m ts rule =
    relation_instance G (match_of rule ts) (numbered var m rule.variables) rule.relation

-- the equations of what is chosen: one for each occurrence, an argument's before its head's
abbrev pub choices_at : Registry → Signature → (ℕ → Relation) → ℕ → ℕ → ChosenStatement → List (Relation × Relation)
choices_at G sig var k m (chosen_name x) = []
choices_at G sig var k m (chosen_rule c ts i rule) = (var k, rule_instance G var m ts rule) ∷ []
choices_at G sig var k m (chosen_equality c ts) = (var k, normal_equality G (type_at sig c ts)) ∷ []
choices_at G sig var k m (not_chosen c ts) = []
choices_at G sig var k m (chosen_application f a) =
    choices_at G sig var (k + size (statement_of f)) m a ++ choices_at G sig var k (m + rule_slots a) f
choices_at G sig var k m (chosen_abstraction x t b) = choices_at G sig var k m b

-- a replacement solves equations
abbrev pub AllSolved : (ℕ → Relation) → List (Relation × Relation) → Type 0
AllSolved s [] = Unit {0}
AllSolved s (e ∷ es) = (under s e.0 ≡ under s e.1) × AllSolved s es
