use Rattle.std.proofs.Common.{arith, refl}
use Rattle.lt_conv.specs.declared.machine.Frame.TheVariants.{Argument}
use Rattle.lt_conv.proofs.Moving.{pushed, behind-head, into-argument, head-room}
use Rattle.lt_conv.specs.Machines.{spot}
use Rattle.lt_conv.proofs.moves.enter_argument.Goals as goal

pub argument-requires : goal.argument-requires
argument-requires g c = behind-head c.args.proof.now (spot c.args.machine.now) c.args.whole c.requires

pub overflow_sub-machine : goal.overflow_sub-machine
overflow_sub-machine g c = head-room c.args.proof.now (spot c.args.machine.now) c.args.whole c.requires

pub returns-clause-smaller : goal.returns-clause-smaller
returns-clause-smaller g c = (let r = head-room c.args.proof.now (spot c.args.machine.now) c.args.whole c.requires in record { steps = refl; room = omega (arith, r) })

pub returns-clause-leads : goal.returns-clause-leads
returns-clause-leads g c = λ q. into-argument c.args.proof.now (spot c.args.machine.now) c.args.whole c.argument.new.proof c.in_ok-line.line c.argument.ensures.carries c.in_ok-line.ensures.line _ (pushed c.args.machine.now.frames.items c.push.new.self.items (Argument c.args.whole c.args.machine.now.line) c.in_ok-push.ensures.items) q
