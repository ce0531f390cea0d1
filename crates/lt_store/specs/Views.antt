-- What a store shows of a node.
use Rattle.lt_store.specs.declared.node.Node.{Node}
use Rattle.lt_store.specs.declared.node.Node.TheVariants as node
use Rattle.lt_store.specs.declared.node.View.{View}
use Rattle.lt_store.specs.declared.node.View.TheVariants.{Free, Bound, Const, App, Lam}

-- the node that a view shows
abbrev pub node_of : View → Node
node_of (Free n t) = node.Free n.now t.now
node_of (Bound i) = node.Bound i
node_of (Const n ts) = node.Const n.now ts.now
node_of (App f a) = node.App f a
node_of (Lam t b) = node.Lam t.now b
