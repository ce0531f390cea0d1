-- How an expression lies in a vector: its nodes, children before parents and from the left.
use Rattle.std.specs.Prelude.{◌≡◌, ℕ, ◌+◌, ◌-◌, ◌≤◌, List, [], ◌∷◌, ◌++◌, length, take, drop}
use Rattle.lt_expressions.specs.declared.rel.RelNode.{RelNode}
use Rattle.lt_expressions.specs.declared.rel.RelNode.TheVariants.{Var, Eq, Con}
use Rattle.lt_definitions.specs.Types.{type_variable}
use Rattle.lt_transport_definitions.specs.Relations.{Relation, Relations, relation_variable, equality, constructed, no_relations, relation_and, relation_row}

-- how many nodes lie below the root, and how many in all
abbrev mutual
  pub below : Relation → ℕ
  below (relation_variable n t) = 0
  below (equality t) = 0
  below (constructed c ts rs) = sizes rs

  pub sizes : Relations → ℕ
  sizes no_relations = 0
  sizes (relation_and t ts) = (below t + 1) + sizes ts

abbrev pub relation_size : Relation → ℕ
relation_size t = below t + 1

-- the roots of expressions that lie one after another from a place on
abbrev pub roots : ℕ → Relations → List ℕ
roots from no_relations = []
roots from (relation_and t ts) = (from + below t) ∷ roots (from + relation_size t) ts

-- the nodes of an expression that lies from a place on
abbrev mutual
  pub relation_nodes : ℕ → Relation → List RelNode
  relation_nodes from (relation_variable n t) = Var n t ∷ []
  relation_nodes from (equality t) = Eq t ∷ []
  relation_nodes from (constructed c ts rs) = row_nodes from rs ++ Con c ts (roots from rs) ∷ []

  pub row_nodes : ℕ → Relations → List RelNode
  row_nodes from no_relations = []
  row_nodes from (relation_and t ts) = relation_nodes from t ++ row_nodes (from + (below t + 1)) ts

-- how many arguments a node has
abbrev pub arguments : RelNode → ℕ
arguments (Var n t) = 0
arguments (Eq t) = 0
arguments (Con c ts ids) = length ids

-- what a node makes of the expressions before it
abbrev pub grow : List Relation → RelNode → List Relation
grow before (Var n t) = before ++ relation_variable n t ∷ []
grow before (Eq t) = before ++ equality t ∷ []
grow before (Con c ts ids) =
    take (length before - length ids) before
    ++ constructed c ts (relation_row (drop (length before - length ids) before)) ∷ []

-- whether the expressions before a node are as many as its arguments
abbrev pub HasRoom : List Relation → RelNode → Type 0
HasRoom before (Var n t) = Unit {0}
HasRoom before (Eq t) = Unit {0}
HasRoom before (Con c ts ids) = length ids ≤ length before

-- the expressions that nodes make, in order
abbrev pub forest : List Relation → List RelNode → List Relation
forest before [] = before
forest before (n ∷ ns) = forest (grow before n) ns

abbrev pub first : List Relation → Relation
first [] = equality (type_variable [])
first (t ∷ _) = t

-- the expression that nodes hold
abbrev pub relation_of_nodes : List RelNode → Relation
relation_of_nodes nodes = first (forest [] nodes)

-- expressions that lie one after another, with their roots
pub record IsRow (nodes : List RelNode) (places : List ℕ) (made : List Relation) : Type 0 where
  pub laid : nodes ≡ row_nodes 0 (relation_row made)
  pub at : places ≡ roots 0 (relation_row made)

-- the place behind the nodes of expressions that lie one after another, by their roots
abbrev pub behind : List ℕ → ℕ
behind [] = 0
behind (r ∷ []) = r + 1
behind (r ∷ s ∷ rs) = behind (s ∷ rs)
