use Rattle.std.proofs.Common.{◌≡◌, ◌<◌, length, arith, subst, sym, ◌∙◌}
use Rattle.std.proofs.lemmas.Grind.{common_steps}
use Rattle.lt_search.proofs.Layers.{con-headed, con-arity, con-child, rebuilt, same-equalities, same-constructors, other-heads, heads-other}
use Rattle.lt_search.proofs.expression.ExpressionFirstOrder.variable.Goals as goal

pub returns-in-Constructed : goal.returns-in-Constructed
returns-in-Constructed c = con-headed c.args.self.now c.in-Constructed.field-0 c.in-Constructed.field-1 c.in-Constructed.field-2 c.in-Constructed.is
