use Rattle.lt_hol.proofs.TypingSteps.{applies, applies-not}
use Rattle.lt_hol.proofs.typing.applied_types.Goals as goal

pub returns-then-same : goal.returns-then-same
returns-then-same c =
    (c.in-Some.ensures.within.1, applies c.args.table.now c.args.t c.args.u c.in-Some.from c.in-Some.to c.in-Some.ensures.parts (c.same.ensures.types.0 c.if-same.true))

pub returns-else-same : goal.returns-else-same
returns-else-same c =
    (c.requires.function, c.requires.argument, applies-not c.args.table.now c.args.t c.args.u c.in-Some.from c.in-Some.to c.same.result c.in-Some.ensures.parts c.same.ensures.types.1 c.if-same.false)
