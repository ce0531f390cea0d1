use Rattle.std.proofs.Common.{◌≡◌, map}
use Rattle.lt_unify.specs.Tree.{applied_to, head_of}
use Rattle.lt_transport_definitions.specs.Relations.{constructed, relation_row}
use Rattle.lt_search.specs.ExpressionView.{relation_of, expression_tree}
use Rattle.lt_search.proofs.Layers.{rebuilt, if_ok-map}
use Rattle.lt_search.proofs.expression.ExpressionFirstOrder.rebuild.Goals as goal

pub returns : goal.returns
returns c = if_ok-map c.constructed.result
    (λ s. relation_of s ≡ constructed c.in-Constructed.c c.in-Constructed.ts (relation_row (map relation_of c.args.children.items)))
    (λ s. expression_tree s ≡ applied_to (head_of (expression_tree c.args.self.now)) (map expression_tree c.args.children.items)) c.constructed.ensures
    (λ s e. rebuilt c.args.self.now s c.in-Constructed.c c.in-Constructed.ts c.in-Constructed.field-2 c.args.children c.in-Constructed.is e)
