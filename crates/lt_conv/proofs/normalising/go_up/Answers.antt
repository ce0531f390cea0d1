use Rattle.std.proofs.Common.{reverse, refl}
use Rattle.lt_conv.specs.declared.machine.Frame.TheVariants.{Function, Argument, Body}
use Rattle.lt_conv.specs.Machines.{spot}
use Rattle.lt_conv.proofs.Moving.{pushed-is}
use Rattle.lt_conv.proofs.Upwards.{off-head, off-argument, off-body, leads-goes, nearer}
use Rattle.lt_conv.proofs.normalising.go_up.Goals as goal

pub enter_argument-requires : goal.enter_argument-requires
enter_argument-requires g c = off-head c.args.proof.now (spot c.args.machine.now) c.requires.running (reverse c.pop.new.self.items) c.in-Some-Function.whole c.requires.up (pushed-is c.pop.new.self.items c.args.machine.now.frames.items c.in-Some-Function.field-0 (Function c.in-Some-Function.whole) c.in-Some-Function.ensures.items c.in-Some-Function.field-0-is)

pub returns-in-Some-Function-clause-goes : goal.returns-in-Some-Function-clause-goes
returns-in-Some-Function-clause-goes g c = λ q. leads-goes q.whole q.t c.enter_argument.new.proof (spot c.enter_argument.new.machine) c.enter_argument.result _ c.going.ensures (c.enter_argument.ensures.leads (off-head c.args.proof.now (spot c.args.machine.now) q (reverse c.pop.new.self.items) c.in-Some-Function.whole c.requires.up (pushed-is c.pop.new.self.items c.args.machine.now.frames.items c.in-Some-Function.field-0 (Function c.in-Some-Function.whole) c.in-Some-Function.ensures.items c.in-Some-Function.field-0-is)))

pub returns-in-Some-Function-clause-smaller : goal.returns-in-Some-Function-clause-smaller
returns-in-Some-Function-clause-smaller g c = nearer (spot c.args.machine.now) (record (spot c.args.machine.now) { frames = reverse c.pop.new.self.items }) (spot c.enter_argument.new.machine) c.enter_argument.result _ c.going.ensures refl refl c.enter_argument.ensures.smaller

pub leave_argument-requires : goal.leave_argument-requires
leave_argument-requires g c = off-argument c.args.proof.now (spot c.args.machine.now) c.requires.running (reverse c.pop.new.self.items) c.in-Some-Argument.whole c.in-Some-Argument.head c.requires.up (pushed-is c.pop.new.self.items c.args.machine.now.frames.items c.in-Some-Argument.field-0 (Argument c.in-Some-Argument.whole c.in-Some-Argument.head) c.in-Some-Argument.ensures.items c.in-Some-Argument.field-0-is)

pub returns-in-Some-Argument-clause-goes : goal.returns-in-Some-Argument-clause-goes
returns-in-Some-Argument-clause-goes g c = λ q. leads-goes q.whole q.t c.leave_argument.new.proof (spot c.leave_argument.new.machine) c.leave_argument.result _ c.going-in-Some-Argument.ensures (c.leave_argument.ensures.leads (off-argument c.args.proof.now (spot c.args.machine.now) q (reverse c.pop.new.self.items) c.in-Some-Argument.whole c.in-Some-Argument.head c.requires.up (pushed-is c.pop.new.self.items c.args.machine.now.frames.items c.in-Some-Argument.field-0 (Argument c.in-Some-Argument.whole c.in-Some-Argument.head) c.in-Some-Argument.ensures.items c.in-Some-Argument.field-0-is)))

pub returns-in-Some-Argument-clause-smaller : goal.returns-in-Some-Argument-clause-smaller
returns-in-Some-Argument-clause-smaller g c = nearer (spot c.args.machine.now) (record (spot c.args.machine.now) { frames = reverse c.pop.new.self.items }) (spot c.leave_argument.new.machine) c.leave_argument.result _ c.going-in-Some-Argument.ensures refl refl c.leave_argument.ensures.smaller

pub leave_body-requires : goal.leave_body-requires
leave_body-requires g c = off-body c.args.proof.now (spot c.args.machine.now) c.requires.running (reverse c.pop.new.self.items) c.in-Some-Body.whole c.in-Some-Body.x c.in-Some-Body.ty c.requires.up (pushed-is c.pop.new.self.items c.args.machine.now.frames.items c.in-Some-Body.field-0 (Body c.in-Some-Body.whole c.in-Some-Body.x c.in-Some-Body.ty) c.in-Some-Body.ensures.items c.in-Some-Body.field-0-is)

pub returns-in-Some-Body-clause-goes : goal.returns-in-Some-Body-clause-goes
returns-in-Some-Body-clause-goes g c = λ q. leads-goes q.whole q.t c.leave_body.new.proof (spot c.leave_body.new.machine) c.leave_body.result _ c.going-in-Some-Body.ensures (c.leave_body.ensures.leads (off-body c.args.proof.now (spot c.args.machine.now) q (reverse c.pop.new.self.items) c.in-Some-Body.whole c.in-Some-Body.x c.in-Some-Body.ty c.requires.up (pushed-is c.pop.new.self.items c.args.machine.now.frames.items c.in-Some-Body.field-0 (Body c.in-Some-Body.whole c.in-Some-Body.x c.in-Some-Body.ty) c.in-Some-Body.ensures.items c.in-Some-Body.field-0-is)))

pub returns-in-Some-Body-clause-smaller : goal.returns-in-Some-Body-clause-smaller
returns-in-Some-Body-clause-smaller g c = nearer (spot c.args.machine.now) (record (spot c.args.machine.now) { frames = reverse c.pop.new.self.items }) (spot c.leave_body.new.machine) c.leave_body.result _ c.going-in-Some-Body.ensures refl refl c.leave_body.ensures.smaller
