use Rattle.lt_kernel.proofs.LineNumbers.{number-past, number-read}
use Rattle.lt_kernel.proofs.steps.step_at.Goals as goal

pub returns-then-number-steps : goal.returns-then-number-steps
returns-then-number-steps c = number-past c.args.steps.now c.args.number c.if-number-steps.true

pub returns : goal.returns
returns c = number-read c.args.steps.now c.args.number c.index-steps-number.result c.if-number-eq0.false c.if-number-steps.false c.index-steps-number.is
