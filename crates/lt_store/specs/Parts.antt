-- The parts in which two nodes are to be compared.
use Rattle.std.specs.Prelude.{ℕ, List, [], ◌∷◌, Option, Some, None, if◌then◌else◌, nat_eq, ◌&&◌}
use Rattle.lt_definitions.specs.Types.{same_name, same_type, same_types, row}
use Rattle.lt_store.specs.declared.node.Node.{Node}
use Rattle.lt_store.specs.declared.node.Node.TheVariants.{Free, Bound, Const, App, Lam}

-- the pairs of children of two nodes of one kind, or none for nodes that differ
abbrev pub parts_of : Node → Node → Option (List (ℕ × ℕ))
parts_of (Free n t) (Free m u) = if same_name n m && same_type t u then Some [] else None
parts_of (Bound i) (Bound j) = if nat_eq i j then Some [] else None
parts_of (Const n ts) (Const m us) = if same_name n m && same_types (row ts) (row us) then Some [] else None
parts_of (App f a) (App g b) = Some ((f, g) ∷ (a, b) ∷ [])
parts_of (Lam t b) (Lam u c) = if same_type t u then Some ((b, c) ∷ []) else None
parts_of _ _ = None
