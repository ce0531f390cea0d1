use Rattle.std.proofs.Common.{Some, None}
use Rattle.lt_kernel.proofs.LineNumbers.{sequent-line, sequent-within}
use Rattle.lt_kernel.proofs.steps.sequent_at.Goals as goal

pub returns-in-Some : goal.returns-in-Some
returns-in-Some g c = record {
  is = sequent-line _ c.args.done.now c.args.number (Some c.in-Some.step.now) c.in-Some.ensures;
  within = sequent-within _ c.args.done.now c.args.number c.in-Some.step.now c.requires c.in-Some.ensures;
}

pub returns-in-None : goal.returns-in-None
returns-in-None g c = record {
  is = sequent-line _ c.args.done.now c.args.number None c.in-None.ensures;
  within = tt;
}
