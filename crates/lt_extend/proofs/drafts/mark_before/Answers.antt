use Rattle.std.proofs.Common.{arith, ◌+◌, List, take, drop, subst}
use Rattle.lt_definitions.specs.Items as theory
use Rattle.lt_definitions.specs.Items.{context_of, empty}
use Rattle.lt_definitions.specs.Theory.{IsPlainTheory}
use Rattle.lt_hol.specs.Items.{item_of}
use Rattle.lt_extend.specs.Theories.{items_of, context_behind}
use Rattle.lt_extend.specs.Drafts.{IsMarkOf}
use Rattle.lt_extend.proofs.Counts.{total, IsMarkWith, mark-first, mark-enough, mark-next, mark-last, parted-at, rest-at, none-left}
use Rattle.lt_extend.proofs.drafts.mark_before.Goals as goal

pub loop-at-init : goal.loop-at-init
loop-at-init c =
    let e = parted-at c.args.items.now c.args.count in
    mark-first (items_of (take c.args.count c.args.items.now)) (items_of (drop c.args.count c.args.items.now)) c.args.now
    (subst IsPlainTheory e c.requires.valid) (subst (λ (is : List theory.Item). IsMarkOf (context_of empty is) c.args.now) e c.requires.now)

pub without-mark-requires : goal.without-mark-requires
without-mark-requires c =
    mark-enough (context_behind (take c.args.count c.args.items.now)) (item_of c.at.result.now) (items_of (drop (c.loop-at.at + 1) c.args.items.now)) c.loop-at.mark
    (subst (λ (is : List theory.Item). IsMarkWith (context_behind (take c.args.count c.args.items.now)) (total is) c.loop-at.mark) (rest-at c.args.items.now c.loop-at.at c.at.result.now c.at.ensures) c.loop-at.invariant)

pub loop-at-preserved : goal.loop-at-preserved
loop-at-preserved c =
    mark-next (context_behind (take c.args.count c.args.items.now)) (item_of c.at.result.now) (items_of (drop (c.loop-at.at + 1) c.args.items.now)) c.loop-at.mark c.without-mark.result
    (subst (λ (is : List theory.Item). IsMarkWith (context_behind (take c.args.count c.args.items.now)) (total is) c.loop-at.mark) (rest-at c.args.items.now c.loop-at.at c.at.result.now c.at.ensures) c.loop-at.invariant)
    c.without-mark.ensures

pub returns : goal.returns
returns c =
    mark-last (context_behind (take c.args.count c.args.items.now)) c.loop-at.mark
    (subst (λ (is : List theory.Item). IsMarkWith (context_behind (take c.args.count c.args.items.now)) (total is) c.loop-at.mark) (none-left c.args.items.now c.loop-at.at (omega (arith, c.loop-at-test.false, c.len-at-end.ensures))) c.loop-at.invariant)
