use Rattle.std.proofs.Common.{◌≡◌, ◌<◌, length, arith, subst, sym, ◌∙◌}
use Rattle.std.proofs.lemmas.Grind.{common_steps}
use Rattle.lt_search.proofs.Layers.{con-headed, con-arity, con-child, rebuilt, same-equalities, same-constructors, other-heads, heads-other}
use Rattle.lt_search.proofs.expression.ExpressionFirstOrder.head_same.Goals as goal

pub returns-in-Equality-other : goal.returns-in-Equality-other
returns-in-Equality-other c = same-equalities c.args.self.now c.args.other.now c.in-Equality.t c.in-Equality-other.u c.same_type.result c.in-Equality.is c.in-Equality-other.is c.same_type.ensures

pub returns-in-Constructed-other : goal.returns-in-Constructed-other
returns-in-Constructed-other c = other-heads c.args.self.now c.args.other.now c.in-Equality.t c.in-Constructed-other.field-0 c.in-Constructed-other.field-1 c.in-Constructed-other.field-2 c.in-Equality.is c.in-Constructed-other.is

pub returns-in-Constructed-other-2 : goal.returns-in-Constructed-other-2
returns-in-Constructed-other-2 c = same-constructors c.args.self.now c.args.other.now c.in-Constructed.c c.in-Constructed-other-2.d c.in-Constructed.ts c.in-Constructed-other-2.us c.in-Constructed.field-2 c.in-Constructed-other-2.field-2 c.same_head.result c.in-Constructed.is c.in-Constructed-other-2.is c.same_head.ensures

pub returns-in-Equality-other-2 : goal.returns-in-Equality-other-2
returns-in-Equality-other-2 c = heads-other c.args.self.now c.args.other.now c.in-Equality-other-2.field-0 c.in-Constructed.c c.in-Constructed.ts c.in-Constructed.field-2 c.in-Constructed.is c.in-Equality-other-2.is
