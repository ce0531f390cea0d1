use Rattle.lt_conv.proofs.Stepping.{as_equation, shut-type, shut-meets}
use Rattle.lt_conv.proofs.steps.shut.Goals as goal

pub abs-requires-clause-ty : goal.abs-requires-clause-ty
abs-requires-clause-ty g c = shut-type c.args.proof.now c.args.i c.args.x c.args.ty c.args.body c.requires

pub abs-requires-clause-line : goal.abs-requires-clause-line
abs-requires-clause-line g c = as_equation c.requires.body

pub trans-requires : goal.trans-requires
trans-requires g c = shut-meets c.args.proof.now c.abs.new.proof c.args.i c.args.x c.args.ty c.args.body c.in_ok-closed.closed c.requires c.abs.ensures.carries (c.in_ok-closed.ensures.line (as_equation c.requires.body))

pub returns-clause-line : goal.returns-clause-line
returns-clause-line g c = λ q. c.in_ok-line.ensures.line (shut-meets c.args.proof.now c.abs.new.proof c.args.i c.args.x c.args.ty c.args.body c.in_ok-closed.closed q c.abs.ensures.carries (c.in_ok-closed.ensures.line (as_equation q.body)))
