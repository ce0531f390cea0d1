use Rattle.std.proofs.Common.{get_or, sym, ◌∙◌}
use Rattle.lt_definitions.specs.Rules.{line_at}
use Rattle.lt_store.specs.Trees.{trees}
use Rattle.lt_kernel.specs.State.{sequents}
use Rattle.lt_kernel.proofs.ReachingLemmas.{begins, lacks}
use Rattle.lt_programs.specs.Programs.{at_each}
use Rattle.lt_derived.proofs.Repeated.{some-of, none-of, typed-at, still-typed, at-next, at-fails, at-ends}
use Rattle.lt_derived.proofs.repeating.spec.Goals as goal

pub returns-then-not-is_line-clause-reaches : goal.returns-then-not-is_line-clause-reaches
returns-then-not-is_line-clause-reaches g c =
    let old = c.args.proof.now in
    lacks old c.args.i (at_each old.signature (trees old.nodes c.args.terms.now)) (none-of (line_at (sequents old) c.args.i) (sym c.is_line.ensures ∙ c.if-not-is_line.true))

pub loop-t-init : goal.loop-t-init
loop-t-init g c =
    let old = c.args.proof.now in
    let there = some-of (line_at (sequents old) c.args.i) (sym c.is_line.ensures ∙ c.if-not-is_line.false) in
    record { carries = λ first h. h; holds = begins old c.args.i there.0 (at_each old.signature (trees old.nodes c.args.terms.now)) there.1 }

pub allE-requires : goal.allE-requires
allE-requires g c = still-typed c.args.proof.now c.loop-t.proof (get_or c.args.terms.now c.loop-t.t-index 0) c.loop-t.invariant.carries
    (typed-at c.args.proof.now c.args.terms.now c.loop-t.t-index c.requires c.loop-t-test.true)

pub returns-in-Err-clause-reaches : goal.returns-in-Err-clause-reaches
returns-in-Err-clause-reaches g c =
    at-fails c.args.proof.now c.loop-t.proof c.allE.new.self c.args.terms.now c.loop-t.t-index c.loop-t.line _ c.loop-t.invariant.carries c.requires c.loop-t-test.true
    c.loop-t.invariant.holds c.in-Err.fault c.in-Err.ensures.reaches

pub loop-t-preserved : goal.loop-t-preserved
loop-t-preserved g c = record {
  carries = λ first h. c.allE.ensures.carries first (c.loop-t.invariant.carries first h);
  holds = at-next c.args.proof.now c.loop-t.proof c.allE.new.self c.args.terms.now c.loop-t.t-index c.loop-t.line _ c.loop-t.invariant.carries c.requires c.loop-t-test.true
      c.loop-t.invariant.holds c.in-Ok.number c.in-Ok.ensures.reaches;
}

pub returns-clause-reaches : goal.returns-clause-reaches
returns-clause-reaches g c = at-ends c.args.proof.now c.loop-t.proof c.args.terms.now c.loop-t.t-index c.loop-t.line _ c.loop-t-test.false c.loop-t.invariant.holds
