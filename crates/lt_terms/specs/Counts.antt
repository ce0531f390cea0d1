-- How many nodes a node of a term stands for.
use Rattle.std.specs.Prelude.{ℕ, ◌+◌}
use Rattle.lt_definitions.specs.Types.{type_nodes, types_nodes, row}
use Rattle.lt_terms.specs.declared.term.TermNode.{TermNode}
use Rattle.lt_terms.specs.declared.term.TermNode.TheVariants.{Free, Bound, Const, App, Lam}

-- itself and the nodes of its types
abbrev pub node_count : TermNode → ℕ
node_count (Free x t) = 1 + type_nodes t
node_count (Bound x) = 1
node_count (Const c ts) = 1 + types_nodes (row ts)
node_count (App f a) = 1
node_count (Lam x t b) = 1 + type_nodes t
