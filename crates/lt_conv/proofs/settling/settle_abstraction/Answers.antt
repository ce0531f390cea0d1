use Rattle.lt_conv.proofs.Converting.{still-sound}
use Rattle.lt_conv.proofs.Settled.{still-named, body-type, body-equation, closed-equation, body-settled}
use Rattle.lt_conv.proofs.settling.settle_abstraction.Goals as goal

pub abs-requires-clause-ty : goal.abs-requires-clause-ty
abs-requires-clause-ty g c = let q = c.requires.body in body-type c.args.proof.now c.args.id c.args.x.now c.args.ty.now q.t q.body

pub abs-requires-clause-line : goal.abs-requires-clause-line
abs-requires-clause-line g c = body-equation c.requires.body

pub settle-requires-clause-line : goal.settle-requires-clause-line
settle-requires-clause-line g c = closed-equation c.requires.body c.abs.new.proof c.in_ok-closed.closed c.in_ok-closed.ensures.line

pub settle-requires-clause-sound : goal.settle-requires-clause-sound
settle-requires-clause-sound g c = still-sound c.args.proof.now c.abs.new.proof c.abs.ensures.carries c.requires.sound

pub returns-clause-line : goal.returns-clause-line
returns-clause-line g c = λ q.
    body-settled (g.A.Conversion.gives c.args.inner.now) c.args.proof.now c.args.id c.args.x.now c.args.ty.now c.args.body q c.settle.new.proof c.in_ok-settled.settled
    (c.in_ok-settled.ensures.line q.named (still-named c.args.proof.now c.abs.new.proof q.named c.abs.ensures.carries q.same) (closed-equation q c.abs.new.proof c.in_ok-closed.closed c.in_ok-closed.ensures.line))
