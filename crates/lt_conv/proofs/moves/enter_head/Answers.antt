use Rattle.lt_conv.specs.declared.machine.Frame.TheVariants.{Function}
use Rattle.lt_conv.proofs.Moving.{pushed, head-leads, applied}
use Rattle.lt_conv.specs.Machines.{spot}
use Rattle.lt_conv.proofs.moves.enter_head.Goals as goal

pub returns-clause-leads : goal.returns-clause-leads
returns-clause-leads g c = λ q. head-leads c.args.proof.now (spot c.args.machine.now) q c.function.new.proof c.in_ok-head.head _ c.function.ensures.carries (c.in_ok-head.ensures.line (applied c.args.proof.now (spot c.args.machine.now) q)) (pushed c.args.machine.now.frames.items c.push.new.self.items (Function c.args.machine.now.line) c.in_ok-push.ensures.items)
