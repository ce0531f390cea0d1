-- A relation and two terms of a store.
-- Source: this project's own.
use Rattle.std.specs.Prelude.{ℕ, List}
use Rattle.lt_nameless.specs.Nameless.{Nameless}
use Rattle.lt_store.specs.declared.node.Node.{Node}
use Rattle.lt_store.specs.Trees.{tree_at}

-- what they stand for
abbrev pub three_trees : List Node → ℕ × ℕ × ℕ → Nameless × Nameless × Nameless
three_trees ns p = (tree_at ns p.0, tree_at ns p.1, tree_at ns p.2)
