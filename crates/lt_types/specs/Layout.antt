-- How a type lies in a vector: its nodes, children before parents and from the left.
use Rattle.std.specs.Prelude.{◌≡◌, ℕ, zero, suc, ◌+◌, ◌-◌, ◌≤◌, List, [], ◌∷◌, ◌++◌, length, take, drop}
use Rattle.lt_types.specs.declared.ty.TyNode.{TyNode}
use Rattle.lt_types.specs.declared.ty.TyNode.TheVariants.{Var, Con}
use Rattle.lt_definitions.specs.Types.{TypeTree, TypeTrees, type_variable, type_constructor, no_types, type_and, row}

-- how many nodes lie below the root, and how many in all
abbrev mutual
  pub below : TypeTree → ℕ
  below (type_variable x) = 0
  below (type_constructor c ts) = sizes ts

  pub sizes : TypeTrees → ℕ
  sizes no_types = 0
  sizes (type_and t ts) = (below t + 1) + sizes ts

abbrev pub type_size : TypeTree → ℕ
type_size t = below t + 1

-- the roots of types that lie one after another from a place on
abbrev pub roots : ℕ → TypeTrees → List ℕ
roots from no_types = []
roots from (type_and t ts) = (from + below t) ∷ roots (from + type_size t) ts

-- the nodes of a type that lies from a place on
abbrev mutual
  pub type_nodes : ℕ → TypeTree → List TyNode
  type_nodes from (type_variable x) = Var x ∷ []
  type_nodes from (type_constructor c ts) = row_nodes from ts ++ Con c (roots from ts) ∷ []

  pub row_nodes : ℕ → TypeTrees → List TyNode
  row_nodes from no_types = []
  row_nodes from (type_and t ts) = type_nodes from t ++ row_nodes (from + (below t + 1)) ts

-- how many arguments a node has
abbrev pub arguments : TyNode → ℕ
arguments (Var x) = 0
arguments (Con c ids) = length ids

-- what a node makes of the types before it
abbrev pub grow : List TypeTree → TyNode → List TypeTree
grow before (Var x) = before ++ type_variable x ∷ []
grow before (Con c ids) =
    take (length before - length ids) before ++ type_constructor c (row (drop (length before - length ids) before)) ∷ []

-- whether the types before a node are as many as its arguments
abbrev pub HasRoom : List TypeTree → TyNode → Type 0
HasRoom before (Var x) = Unit {0}
HasRoom before (Con c ids) = length ids ≤ length before

-- the types that nodes make, in order
abbrev pub forest : List TypeTree → List TyNode → List TypeTree
forest before [] = before
forest before (n ∷ ns) = forest (grow before n) ns

abbrev pub first : List TypeTree → TypeTree
first [] = type_variable []
first (t ∷ _) = t

-- the type that nodes hold
abbrev pub type_of_nodes : List TyNode → TypeTree
type_of_nodes nodes = first (forest [] nodes)

-- types that lie one after another, with their roots
pub record IsRow (nodes : List TyNode) (places : List ℕ) (types : List TypeTree) : Type 0 where
  pub laid : nodes ≡ row_nodes 0 (row types)
  pub at : places ≡ roots 0 (row types)

-- the roots of all types, where those of all but the last are given: the last one's root is the last of so many nodes
abbrev pub all_roots : ℕ → List ℕ → List ℕ
all_roots zero places = places
all_roots (suc n) places = places ++ n ∷ []
