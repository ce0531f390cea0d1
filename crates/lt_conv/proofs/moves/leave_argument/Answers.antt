use Rattle.std.proofs.Common.{arith, refl}
use Rattle.lt_conv.proofs.Moving.{joins, left-argument, argument-left-room}
use Rattle.lt_conv.specs.Machines.{spot}
use Rattle.lt_conv.proofs.moves.leave_argument.Goals as goal

pub join-requires : goal.join-requires
join-requires g c = joins c.args.proof.now (spot c.args.machine.now) c.args.whole c.args.head c.requires

pub overflow_sub-machine : goal.overflow_sub-machine
overflow_sub-machine g c = argument-left-room c.args.proof.now (spot c.args.machine.now) c.args.whole c.args.head c.requires

pub returns-clause-smaller : goal.returns-clause-smaller
returns-clause-smaller g c = (let r = argument-left-room c.args.proof.now (spot c.args.machine.now) c.args.whole c.args.head c.requires in record { steps = refl; room = omega (arith, r) })

pub returns-clause-leads : goal.returns-clause-leads
returns-clause-leads g c = λ q. left-argument c.args.proof.now (spot c.args.machine.now) c.args.whole c.args.head c.join.new.proof c.in_ok-line.line c.join.ensures.carries c.in_ok-line.ensures.line q.up q
