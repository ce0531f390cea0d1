-- Stores in which no node stands twice.
use Rattle.std.specs.Prelude.{◌≡◌, ℕ, List, slice_get, Some}
use Rattle.lt_store.specs.declared.node.Node.{Node}

-- the node of one place is that of no other
abbrev pub IsSeparate : List Node → Type 0
IsSeparate ns = (i j : ℕ) (n : Node) → slice_get ns i ≡ Some n → slice_get ns j ≡ Some n → i ≡ j
