-- Nodes whose types are instances.
use Rattle.std.specs.Prelude.{map}
use Rattle.lt_definitions.specs.Types.{TypeMap, type_instance}
use Rattle.lt_terms.specs.declared.term.TermNode.{TermNode}
use Rattle.lt_terms.specs.declared.term.TermNode.TheVariants.{Free, Bound, Const, App, Lam}

-- types are put for the type variables of a node
abbrev pub node_instance : TypeMap → TermNode → TermNode
node_instance m (Free x ty) = Free x (type_instance m ty)
node_instance m (Bound x) = Bound x
node_instance m (Const c ts) = Const c (map (type_instance m) ts)
node_instance m (App f a) = App f a
node_instance m (Lam x ty b) = Lam x (type_instance m ty) b
