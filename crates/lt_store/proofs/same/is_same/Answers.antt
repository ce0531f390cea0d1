use Rattle.std.proofs.Common.{◌≡◌, ◌<◌, length, arith, rules, refl, [], ◌∷◌, IsSome, inl, inr}
use Rattle.std.proofs.lemmas.Bool.{false≢true}
use Rattle.std.proofs.lemmas.Grind.{common_steps}
use Rattle.lt_store.specs.Memos.{result_at}
use Rattle.lt_store.proofs.TreeLemmas.{node_read}
use Rattle.lt_store.proofs.MemoLemmas.{empty_memo}
use Rattle.lt_store.proofs.Comparisons.{compared_first, compared_last, pair_in, passed_over, passed_smaller, pair_differs, goes_on}
use Rattle.lt_store.proofs.same.is_same.Goals as goal

pub loop-x-smaller-then-x-y : goal.loop-x-smaller-then-x-y
loop-x-smaller-then-x-y c = passed_smaller _ _ _ c.loop-x.seen _ _ _ _ c.in-Some.ensures.items c.loop-x.invariant

pub loop-x-preserved-then-x-y : goal.loop-x-preserved-then-x-y
loop-x-preserved-then-x-y c = passed_over _ _ _ c.loop-x.seen _ _ _ _ c.in-Some.ensures.items c.loop-x.invariant (inl c.if-x-y.true)

pub loop-x-smaller-then-is_some : goal.loop-x-smaller-then-is_some
loop-x-smaller-then-is_some c = passed_smaller _ _ _ c.loop-x.seen _ _ _ _ c.in-Some.ensures.items c.loop-x.invariant

pub loop-x-preserved-then-is_some : goal.loop-x-preserved-then-is_some
loop-x-preserved-then-is_some c =
    let own : IsSome (result_at c.loop-x.seen c.in-Some.x c.in-Some.y) = grind (arith, common_steps) in
    passed_over _ _ _ c.loop-x.seen _ _ _ _ c.in-Some.ensures.items c.loop-x.invariant (inr own)

pub bounds-nodes-x : goal.bounds-nodes-x
bounds-nodes-x c = (pair_in _ _ _ c.loop-x.seen _ _ _ _ c.in-Some.ensures.items c.loop-x.invariant).0

pub bounds-nodes-y : goal.bounds-nodes-y
bounds-nodes-y c = (pair_in _ _ _ c.loop-x.seen _ _ _ _ c.in-Some.ensures.items c.loop-x.invariant).1

pub offset_bounds-nodes-x : goal.offset_bounds-nodes-x
offset_bounds-nodes-x c =
    let h : c.in-Some.x < length c.args.nodes.now = (pair_in _ _ _ c.loop-x.seen _ _ _ _ c.in-Some.ensures.items c.loop-x.invariant).0 in
    search rules

pub offset_bounds-nodes-y : goal.offset_bounds-nodes-y
offset_bounds-nodes-y c =
    let h : c.in-Some.y < length c.args.nodes.now = (pair_in _ _ _ c.loop-x.seen _ _ _ _ c.in-Some.ensures.items c.loop-x.invariant).1 in
    search rules

pub returns-then-not-branch : goal.returns-then-not-branch
returns-then-not-branch c =
    let h = pair_in _ _ _ c.loop-x.seen _ _ _ _ c.in-Some.ensures.items c.loop-x.invariant in
    let f = pair_differs _ _ _ c.loop-x.seen _ _ _ _ c.in-Some.ensures.items c.loop-x.invariant c.requires.grounded _ c.keep.new.memo c.in_ok-keep.ensures _ _
    (node_read _ _ _ _ h.0 c.view.ensures c.index-nodes-x.is) (node_read _ _ _ _ h.1 c.view-in-Some.ensures c.index-nodes-y.is) _ c.in_ok-push_parts.ensures c.if-not-branch.true in
    (λ e. absurd (false≢true e), λ e. absurd (f e))

pub loop-x-smaller : goal.loop-x-smaller
loop-x-smaller c =
    let h = pair_in _ _ _ c.loop-x.seen _ _ _ _ c.in-Some.ensures.items c.loop-x.invariant in
    (goes_on _ _ _ c.loop-x.seen _ _ _ _ c.in-Some.ensures.items c.loop-x.invariant c.requires.grounded _ c.keep.new.memo c.in_ok-keep.ensures _ _
    (node_read _ _ _ _ h.0 c.view.ensures c.index-nodes-x.is) (node_read _ _ _ _ h.1 c.view-in-Some.ensures c.index-nodes-y.is) _ c.in_ok-push_parts.ensures c.if-not-branch.false).smaller

pub loop-x-preserved : goal.loop-x-preserved
loop-x-preserved c =
    let h = pair_in _ _ _ c.loop-x.seen _ _ _ _ c.in-Some.ensures.items c.loop-x.invariant in
    (goes_on _ _ _ c.loop-x.seen _ _ _ _ c.in-Some.ensures.items c.loop-x.invariant c.requires.grounded _ c.keep.new.memo c.in_ok-keep.ensures _ _
    (node_read _ _ _ _ h.0 c.view.ensures c.index-nodes-x.is) (node_read _ _ _ _ h.1 c.view-in-Some.ensures c.index-nodes-y.is) _ c.in_ok-push_parts.ensures c.if-not-branch.false).compared

pub loop-x-init : goal.loop-x-init
loop-x-init c =
    let is : c.push.new.self.items ≡ (c.args.a, c.args.b) ∷ [] = grind (arith, common_steps) in
    compared_first _ _ _ c.new-seen.result _ c.requires.a c.requires.b (empty_memo c.new-seen.result c.new-seen.ensures.empty) is

pub returns : goal.returns
returns c =
    let none : c.loop-x.pairs.items ≡ [] = grind (arith, common_steps) in
    let same = compared_last _ _ _ c.loop-x.seen _ c.requires.grounded c.requires.a c.requires.b none c.loop-x.invariant in
    (λ _. same, λ _. refl)
