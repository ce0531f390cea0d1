use Rattle.std.proofs.Common.{arith, refl}
use Rattle.lt_conv.proofs.Moving.{shuts, left-body, body-left-room}
use Rattle.lt_conv.specs.Machines.{spot}
use Rattle.lt_conv.proofs.moves.leave_body.Goals as goal

pub shut-requires : goal.shut-requires
shut-requires g c = shuts c.args.proof.now (spot c.args.machine.now) c.args.whole c.args.x c.args.ty c.requires

pub overflow_sub-machine : goal.overflow_sub-machine
overflow_sub-machine g c = body-left-room c.args.proof.now (spot c.args.machine.now) c.args.whole c.args.x c.args.ty c.requires

pub returns-clause-smaller : goal.returns-clause-smaller
returns-clause-smaller g c = (let r = body-left-room c.args.proof.now (spot c.args.machine.now) c.args.whole c.args.x c.args.ty c.requires in record { steps = refl; room = omega (arith, r) })

pub returns-clause-leads : goal.returns-clause-leads
returns-clause-leads g c = λ q. left-body c.args.proof.now (spot c.args.machine.now) c.args.whole c.args.x c.args.ty c.shut.new.proof c.in_ok-line.line c.shut.ensures.carries c.in_ok-line.ensures.line q.up q
