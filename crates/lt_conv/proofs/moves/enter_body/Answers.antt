use Rattle.std.proofs.Common.{arith, refl}
use Rattle.lt_conv.specs.declared.machine.Frame.TheVariants.{Body}
use Rattle.lt_conv.specs.Machines.{spot}
use Rattle.lt_conv.proofs.Moving.{pushed, under, body-into, abstraction-room}
use Rattle.lt_conv.proofs.moves.enter_body.Goals as goal

pub open_body-requires : goal.open_body-requires
open_body-requires g c = under c.args.proof.now (spot c.args.machine.now) c.requires

pub overflow_sub-machine : goal.overflow_sub-machine
overflow_sub-machine g c = abstraction-room c.args.proof.now (spot c.args.machine.now) c.requires

pub returns-clause-smaller : goal.returns-clause-smaller
returns-clause-smaller g c = (let r = abstraction-room c.args.proof.now (spot c.args.machine.now) c.requires in record { steps = refl; room = omega (arith, r) })

pub returns-clause-leads : goal.returns-clause-leads
returns-clause-leads g c = λ q. body-into c.args.proof.now (spot c.args.machine.now) q c.open_body.new.proof c.in_ok-line.line _ c.in_ok-line.x c.in_ok-line.ty c.open_body.ensures.carries (c.in_ok-line.ensures.opened (under c.args.proof.now (spot c.args.machine.now) q))
    (pushed c.args.machine.now.frames.items c.push.new.self.items (Body c.args.machine.now.line c.in_ok-line.x c.in_ok-line.ty) c.in_ok-push.ensures.items)
