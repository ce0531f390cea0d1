use Rattle.std.proofs.Common.{◌≡◌, ◌∙◌, ◌+◌, [], ℕ, suc, None, Option, List, arith, take, reverse, get_or, ap, sym, subst}
use Rattle.lt_definitions.specs.Types.{TypeTree}
use Rattle.lt_hol.specs.Outcomes.{AreOutcomes, IsHint, bound_types}
use Rattle.lt_hol.proofs.TypingSteps.{typed_stack, stack-next, stack-whole, some-outcome, hint-at-place, hints-later, outcomes-within}
use Rattle.lt_hol.proofs.DistinctTypes.{extends-then}
use Rattle.lt_definitions.specs.Typing.{typed}
use Rattle.lt_hol.proofs.signature.Signature.outcome_of.Goals as goal

pub visit-requires : goal.visit-requires
visit-requires c = outcomes-within c.loop-i.table (reverse c.loop-i.outcomes.items) _ c.loop-i.invariant.outcomes

pub loop-i-preserved : goal.loop-i-preserved
loop-i-preserved c =
    let bs : List (Option TypeTree) = bound_types [] c.args.t.now in
    let next : suc c.loop-i.i ≡ c.loop-i.i + 1 = omega arith in
    let hint : IsHint c.loop-i.table c.hint_at-hint.result (get_or bs c.loop-i.i None) =
    subst (λ (h : Option ℕ). IsHint c.loop-i.table h (get_or bs c.loop-i.i None)) (sym (c.hint_at-hint.ensures ∙ ap (λ (hs : List (Option ℕ)). get_or hs c.loop-i.i None) c.as_slice.ensures.value)) (hint-at-place c.loop-i.table c.in_ok-hints.hints.items bs c.loop-i.i c.loop-i.invariant.hints) in
    record {
      outcomes = subst (AreOutcomes c.visit.new.table (reverse c.in_ok-outcomes.outcomes.items))
          (sym (stack-next c.args.self.now [] c.nodes-nodes.result.now bs c.loop-i.i c.index-nodes-i.result c.loop-i-test.true c.index-nodes-i.is) ∙ ap (λ k. typed_stack c.args.self.now [] (take k c.nodes-nodes.result.now) bs) next)
          (c.in_ok-outcomes.ensures.outcomes _ (get_or bs c.loop-i.i None) c.loop-i.invariant.outcomes hint);
      hints = hints-later c.loop-i.table c.visit.new.table c.in_ok-hints.hints.items bs c.in_ok-outcomes.ensures.grows c.loop-i.invariant.hints;
      grows = extends-then c.args.table.now c.loop-i.table c.visit.new.table c.loop-i.invariant.grows c.in_ok-outcomes.ensures.grows;
    }

pub last-requires : goal.last-requires
last-requires c =
    some-outcome c.loop-i.table c.loop-i.outcomes.items (typed c.args.self.now [] c.args.t.now)
    (subst (AreOutcomes c.loop-i.table (reverse c.loop-i.outcomes.items)) (stack-whole c.args.self.now c.args.t.now c.nodes-nodes.result.now c.loop-i.i c.nodes-nodes.ensures c.loop-i.auto.i-end c.loop-i-test.false)
    c.loop-i.invariant.outcomes)

pub returns-clause-outcome : goal.returns-clause-outcome
returns-clause-outcome c =
    c.last.ensures c.loop-i.table (typed c.args.self.now [] c.args.t.now)
    (subst (AreOutcomes c.loop-i.table (reverse c.loop-i.outcomes.items)) (stack-whole c.args.self.now c.args.t.now c.nodes-nodes.result.now c.loop-i.i c.nodes-nodes.ensures c.loop-i.auto.i-end c.loop-i-test.false)
    c.loop-i.invariant.outcomes)
