-- What contracts see of a relation expression whose parts are boxes of its own.
use Rattle.lt_unify.specs.Tree.{Tree}
use Rattle.lt_transport_definitions.specs.Relations.{Relation, relation_variable, equality, constructed, relation_row}
use Rattle.lt_search_laws.specs.RelationTrees.{relation_tree}
use Rattle.lt_search.specs.declared.expression.Expression.{Expression}
use Rattle.lt_search.specs.declared.expression.Expression.TheOpen.{Expression-F}
use Rattle.lt_search.specs.declared.expression.Expression.TheFolds.{fold-Expression}

-- one layer, with the expression of each argument in its place
abbrev pub relation_layer : Expression-F Relation → Relation
relation_layer (Expression-F.Variable n t) = relation_variable n t
relation_layer (Expression-F.Equality t) = equality t
relation_layer (Expression-F.Constructed c ts rs) = constructed c ts (relation_row rs.items)

-- the expression
abbrev pub relation_of : Expression → Relation
relation_of = fold-Expression Relation relation_layer

-- as a tree
abbrev pub expression_tree : Expression → Tree
expression_tree r = relation_tree (relation_of r)
