use Rattle.std.proofs.Common.{◌≡◌, ℕ, drop, sym, ◌∙◌, subst, arith}
use Rattle.lt_definitions.specs.Rules.{line_at}
use Rattle.lt_kernel.specs.State.{sequents}
use Rattle.lt_kernel.proofs.ReachingLemmas.{begins, lacks}
use Rattle.lt_programs.specs.Programs.{detached_by}
use Rattle.lt_derived.specs.Premises.{IsMissing}
use Rattle.lt_derived.proofs.Repeated.{some-of, none-of, by-next, by-fails, by-ends, by-lacks}
use Rattle.lt_derived.proofs.repeating.chain.Goals as goal

pub returns-then-not-is_line-clause-reaches : goal.returns-then-not-is_line-clause-reaches
returns-then-not-is_line-clause-reaches g c =
    let old = c.args.proof.now in
    lacks old c.args.i (detached_by (sequents old) c.args.premises.now) (none-of (line_at (sequents old) c.args.i) (sym c.is_line.ensures ∙ c.if-not-is_line.true))

pub loop-k-init : goal.loop-k-init
loop-k-init g c =
    let old = c.args.proof.now in
    let there = some-of (line_at (sequents old) c.args.i) (sym c.is_line.ensures ∙ c.if-not-is_line.false) in
    record { carries = λ first h. h; holds = begins old c.args.i there.0 (detached_by (sequents old) c.args.premises.now) there.1 }

pub returns-in-Err-clause-reaches : goal.returns-in-Err-clause-reaches
returns-in-Err-clause-reaches g c =
    by-fails c.args.proof.now c.loop-k.proof c.mp.new.self c.args.premises.now c.known-known.result c.loop-k.k c.loop-k.line _ c.loop-k.invariant.carries
    c.known-known.ensures.known c.loop-k-test.true (omega (arith, c.loop-k-test.true, c.known-known.ensures.within)) c.loop-k.invariant.holds c.in-Err.fault c.premise.result c.premise.ensures c.in-Err.ensures.reaches

pub loop-k-preserved : goal.loop-k-preserved
loop-k-preserved g c = record {
  carries = λ first h. c.mp.ensures.carries first (c.loop-k.invariant.carries first h);
  holds = by-next c.args.proof.now c.loop-k.proof c.mp.new.self c.args.premises.now c.known-known.result c.loop-k.k c.loop-k.line _ c.loop-k.invariant.carries
      c.known-known.ensures.known c.loop-k-test.true (omega (arith, c.loop-k-test.true, c.known-known.ensures.within)) c.loop-k.invariant.holds c.in-Ok.number c.premise.result c.premise.ensures c.in-Ok.ensures.reaches;
}

pub returns-then-known-premises-clause-reaches : goal.returns-then-known-premises-clause-reaches
returns-then-known-premises-clause-reaches g c =
    let old = c.args.proof.now in
    let all : c.known-known.result ≡ c.loop-k.k = omega (arith, c.loop-k-test.false, c.loop-k.auto.k-end) in
    by-lacks old c.loop-k.proof c.args.premises.now c.loop-k.k c.loop-k.line _ (omega (arith, c.loop-k.auto.k-end, c.if-known-premises.true))
    (subst (λ (m : ℕ). IsMissing (sequents old) (drop m c.args.premises.now)) all c.known-known.ensures.missing) c.loop-k.invariant.holds

pub returns-clause-reaches : goal.returns-clause-reaches
returns-clause-reaches g c =
    by-ends c.args.proof.now c.loop-k.proof c.args.premises.now c.loop-k.k c.loop-k.line _ (omega (arith, c.loop-k-test.false, c.if-known-premises.false)) c.loop-k.invariant.holds
