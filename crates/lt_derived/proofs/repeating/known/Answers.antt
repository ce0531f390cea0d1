use Rattle.std.proofs.Common.{sym, ◌∙◌}
use Rattle.lt_kernel.specs.State.{sequents}
use Rattle.lt_derived.proofs.Repeated.{known-more, missing-at, missing-none}
use Rattle.lt_derived.proofs.repeating.known.Goals as goal

pub returns-then-not-is_line-clause-missing : goal.returns-then-not-is_line-clause-missing
returns-then-not-is_line-clause-missing g c = missing-at (sequents c.args.proof.now) c.args.numbers.now c.loop-k.k c.loop-k-test.true (sym c.is_line.ensures ∙ c.if-not-is_line.true)

pub loop-k-preserved : goal.loop-k-preserved
loop-k-preserved g c = known-more (sequents c.args.proof.now) c.args.numbers.now c.loop-k.k c.loop-k-test.true c.loop-k.invariant (sym c.is_line.ensures ∙ c.if-not-is_line.false)

pub returns-clause-missing : goal.returns-clause-missing
returns-clause-missing g c = missing-none (sequents c.args.proof.now) c.args.numbers.now
