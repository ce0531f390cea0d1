use Rattle.std.proofs.Common.{◌≡◌, ◌∙◌, arith, length, take, map, ap}
use Rattle.std.proofs.Math.Seq.{take-length}
use Rattle.lt_hol.specs.Outcomes.{at_binder}
use Rattle.lt_hol.proofs.TypingSteps.{all-hints}
use Rattle.lt_hol.proofs.binder_types.bound_types.Goals as goal

pub returns-clause-hints : goal.returns-clause-hints
returns-clause-hints c =
    let end : c.loop-binder.binder-index ≡ length c.deref-binder-items.result.now = omega (arith, c.loop-binder.auto.binder-index-end, c.loop-binder-test.false) in
    all-hints c.lam_types.new.table c.args.t.now c.nodes.result.now c.in_ok-types.types.items c.loop-binder.hints.items c.in_ok-found.found.items c.nodes.ensures c.in_ok-types.ensures.hints c.in_ok-found.ensures
    (c.loop-binder.invariant ∙ ap (map (at_binder c.in_ok-types.types.items)) (ap (λ k. take k c.deref-binder-items.result.now) end ∙ take-length c.deref-binder-items.result.now ∙ c.deref-binder-items.ensures.value))
