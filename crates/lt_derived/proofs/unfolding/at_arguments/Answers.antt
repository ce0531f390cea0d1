use Rattle.std.proofs.Common.{get_or, sym, ◌∙◌}
use Rattle.lt_definitions.specs.Rules.{line_at}
use Rattle.lt_kernel.specs.State.{sequents}
use Rattle.lt_derived.proofs.Repeated.{typed-at, still-typed}
use Rattle.lt_derived.proofs.UnfoldingLemmas.{with-next, with-fails}
use Rattle.lt_derived.proofs.unfolding.at_arguments.Goals as goal

pub at_argument-requires-clause-t : goal.at_argument-requires-clause-t
at_argument-requires-clause-t g c = still-typed c.args.proof.now c.loop-t.proof (get_or c.args.terms.now c.loop-t.t-index 0) c.loop-t.invariant.carries
    (typed-at c.args.proof.now c.args.terms.now c.loop-t.t-index c.requires.terms c.loop-t-test.true)

pub returns-in-Err-clause-reaches : goal.returns-in-Err-clause-reaches
returns-in-Err-clause-reaches g c =
    with-fails c.args.proof.now c.loop-t.proof c.at_argument.new.proof c.args.terms.now c.loop-t.t-index c.loop-t.line _ c.loop-t.invariant.carries c.requires.terms c.loop-t-test.true
    c.loop-t.invariant.holds c.in-Err.fault c.in-Err.ensures.reaches

pub loop-t-preserved : goal.loop-t-preserved
loop-t-preserved g c = record {
  carries = λ first h. c.at_argument.ensures.carries first (c.loop-t.invariant.carries first h);
  holds = with-next c.args.proof.now c.loop-t.proof c.at_argument.new.proof c.args.terms.now c.loop-t.t-index c.loop-t.line _ c.loop-t.invariant.carries c.requires.terms c.loop-t-test.true
      c.loop-t.invariant.holds c.in-Ok.number c.in-Ok.ensures.reaches;
}
