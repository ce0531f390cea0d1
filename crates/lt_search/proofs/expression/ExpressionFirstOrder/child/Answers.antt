use Rattle.std.proofs.Common.{◌≡◌, ◌<◌, length, arith, subst, sym, ◌∙◌}
use Rattle.std.proofs.lemmas.Grind.{common_steps}
use Rattle.lt_search.proofs.Layers.{con-headed, con-arity, con-child, rebuilt, same-equalities, same-constructors, other-heads, heads-other}
use Rattle.lt_search.proofs.expression.ExpressionFirstOrder.child.Goals as goal

pub returns-in-Constructed : goal.returns-in-Constructed
returns-in-Constructed c =
    let low : c.args.i < length c.in-Constructed.children.items = subst (λ n. c.args.i < n) (con-arity c.args.self.now c.in-Constructed.field-0 c.in-Constructed.field-1 c.in-Constructed.children c.in-Constructed.is) c.requires in
    con-child c.args.self.now c.in-Constructed.field-0 c.in-Constructed.field-1 c.in-Constructed.children c.in-Constructed.is c.args.i c.index.result.now low c.index.ensures

pub index-requires : goal.index-requires
index-requires c =
    let low : c.args.i < length c.in-Constructed.children.items = subst (λ n. c.args.i < n) (con-arity c.args.self.now c.in-Constructed.field-0 c.in-Constructed.field-1 c.in-Constructed.children c.in-Constructed.is) c.requires in
    grind (arith, common_steps)
