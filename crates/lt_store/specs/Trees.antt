-- The terms that ids stand for, from a store's list of nodes.
use Rattle.std.specs.Prelude.{◌≡◌, ℕ, ◌+◌, ◌<◌, ◌≤◌, List, [], ◌∷◌, ◌++◌, length, map, slice_get, Some, slice_index_or}
use Rattle.std.specs.List.{All}
use Rattle.lt_nameless.specs.Nameless.{Nameless, nameless_free, nameless_bound, nameless_loose, nameless_constant, nameless_application, nameless_abstraction}
use Rattle.lt_store.specs.declared.node.Node.{Node}
use Rattle.lt_store.specs.declared.node.Node.TheVariants.{Free, Bound, Const, App, Lam}

-- the term at a place of a list of terms
abbrev pub nth_tree : List Nameless → ℕ → Nameless
nth_tree ts i = slice_index_or ts i (nameless_bound 0)

-- the term of a node whose children stand for these terms
abbrev pub tree_of : List Nameless → Node → Nameless
tree_of ts (Free n t) = nameless_free n t
tree_of ts (Bound i) = nameless_bound i
tree_of ts (Const n us) = nameless_constant n us
tree_of ts (App f a) = nameless_application (nth_tree ts f) (nth_tree ts a)
tree_of ts (Lam t b) = nameless_abstraction t (nth_tree ts b)

-- these terms, and then those of the nodes
abbrev pub trees_after : List Nameless → List Node → List Nameless
trees_after ts [] = ts
trees_after ts (n ∷ ns) = trees_after (ts ++ tree_of ts n ∷ []) ns

-- what the id stands for
unfoldable pub tree_at : List Node → ℕ → Nameless
tree_at ns i = nth_tree (trees_after [] ns) i

-- the term of a node, whose children are ids
abbrev pub node_tree : List Node → Node → Nameless
node_tree ns (Free n t) = nameless_free n t
node_tree ns (Bound i) = nameless_bound i
node_tree ns (Const n us) = nameless_constant n us
node_tree ns (App f a) = nameless_application (tree_at ns f) (tree_at ns a)
node_tree ns (Lam t b) = nameless_abstraction t (tree_at ns b)

-- the children of a node are below a place
abbrev pub IsBelow : ℕ → Node → Type 0
IsBelow i (Free n t) = Unit {0}
IsBelow i (Bound k) = Unit {0}
IsBelow i (Const n us) = Unit {0}
IsBelow i (App f a) = (f < i) × (a < i)
IsBelow i (Lam t b) = b < i

-- each node comes behind its children
abbrev pub IsGrounded : List Node → Type 0
IsGrounded ns = (i : ℕ) (n : Node) → slice_get ns i ≡ Some n → IsBelow i n

-- the terms of ids, and that each id is below a bound
abbrev pub trees : List Node → List ℕ → List Nameless
trees ns ids = map (tree_at ns) ids

abbrev pub AllBelow : ℕ → List ℕ → Type 0
AllBelow n ids = All (λ i. i < n) ids

-- The nodes stay, and others may follow.
pub record Extends (old new : List Node) : Type 0 where
  pub more : List Node
  pub is : new ≡ old ++ more
  pub grows : length old ≤ length new

-- The nodes stay, the id is that of the node, and stands for its term.
pub record Makes (old new : List Node) (node : Node) (id : ℕ) : Type 0 where
  pub extends : Extends old new
  pub made : slice_get new id ≡ Some node
  pub within : id < length new
  pub below : IsBelow id node
  pub stands : tree_at new id ≡ node_tree old node

-- The node is the last one, behind those that were there, and the id is its place.
pub record Appends (old new : List Node) (node : Node) (id : ℕ) : Type 0 where
  pub nodes : new ≡ old ++ node ∷ []
  pub place : id ≡ length old

-- how many nodes a term has
abbrev pub tree_size : Nameless → ℕ
tree_size (nameless_free n t) = 1
tree_size (nameless_bound i) = 1
tree_size (nameless_loose x) = 1
tree_size (nameless_constant n us) = 1
tree_size (nameless_application f a) = 1 + tree_size f + tree_size a
tree_size (nameless_abstraction t b) = 1 + tree_size b
