use Rattle.std.proofs.Common.{ap, arith, Err}
use Rattle.lt_run.proofs.Joins.{name_at, next_joined, next_told, next_fails}
use Rattle.lt_run.proofs.files.join_files.Goals as goal

pub returns-in-Err-clause-failed : goal.returns-in-Err-clause-failed
returns-in-Err-clause-failed g c =
    next_fails c.args.most _ _ _ _ _ _ c.args.names.now c.loop-at.at c.as_str.result.now c.loop-at.joined c.in-Err.fault c.of_fault.result
    (name_at c.args.names.now c.loop-at.at c.index-names-at.result c.as_str.result.now (omega (arith, c.loop-at-test.true)) c.index-names-at.is c.as_str.ensures) c.loop-at.invariant.files
    c.in-Err.ensures.same c.loop-at.invariant.later c.of_fault.ensures.fault c.of_fault.ensures.too_long c.of_fault.ensures.memory (λ e. c.in-Err.ensures.fault (ap Err e))
    (λ e. c.in-Err.ensures.too_long (ap Err e))

pub returns-in-Err-clause-told : goal.returns-in-Err-clause-told
returns-in-Err-clause-told g c =
    next_told c.args.most _ _ _ c.args.names.now c.loop-at.at c.as_str.result.now c.loop-at.joined
    (name_at c.args.names.now c.loop-at.at c.index-names-at.result c.as_str.result.now (omega (arith, c.loop-at-test.true)) c.index-names-at.is c.as_str.ensures) c.loop-at.invariant.files c.in-Err.ensures.told

pub loop-at-preserved : goal.loop-at-preserved
loop-at-preserved g c = record {
  files = next_joined c.args.most _ _ _ c.args.names.now c.loop-at.at c.as_str.result.now c.loop-at.joined _
      (name_at c.args.names.now c.loop-at.at c.index-names-at.result c.as_str.result.now (omega (arith, c.loop-at-test.true)) c.index-names-at.is c.as_str.ensures) c.loop-at.invariant.files c.in-Ok.ensures.joins
      c.in-Ok.ensures.same c.in-Ok.ensures.told;
  later = omega (arith, c.loop-at.invariant.later, c.in-Ok.ensures.later);
}
