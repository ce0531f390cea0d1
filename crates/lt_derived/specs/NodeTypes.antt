-- Nodes of a store: their children, and how long the variables of their types are.
-- Source: this project's own.
use Rattle.std.specs.Prelude.{ℕ, List, [], ◌∷◌}
use Rattle.lt_definitions.specs.Types.{row}
use Rattle.lt_types.specs.TypeVariables.{longest_variable, longest_in}
use Rattle.lt_store.specs.declared.node.Node.{Node}
use Rattle.lt_store.specs.declared.node.Node.TheVariants.{Free, Bound, Const, App, Lam}

-- the children of a node
abbrev pub child_ids : Node → List ℕ
child_ids (App f a) = f ∷ a ∷ []
child_ids (Lam t b) = b ∷ []
child_ids _ = []

-- the greatest length of the variables of a node's types
abbrev pub node_length : Node → ℕ
node_length (Free x ty) = longest_variable ty
node_length (Bound i) = 0
node_length (Const c ts) = longest_in (row ts)
node_length (App f a) = 0
node_length (Lam ty b) = longest_variable ty
