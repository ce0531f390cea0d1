use Rattle.std.proofs.Common.{◌∙◌, ap, sym, refl, Bool, ◌&&◌, drop, ◌+◌}
use Rattle.lt_terms.specs.AlikeNodes.{agree}
use Rattle.lt_terms.proofs.Signs.{agree-more, agree-end}
use Rattle.lt_terms.proofs.alpha.agree.Goals as goal

pub loop-at-init : goal.loop-at-init
loop-at-init c = refl

pub returns-then-not-agrees : goal.returns-then-not-agrees
returns-then-not-agrees c =
    sym (agree-more _ c.args.left.now c.args.left_binders.now c.args.right.now c.args.right_binders.now c.loop-at.at c.index-left-at.result c.index-right-at.result c.agrees.result
    c.loop-at-test.true c.requires.same c.requires.left c.requires.right c.index-left-at.is c.index-right-at.is c.agrees.ensures c.loop-at.invariant
    ∙ ap (λ (b : Bool). b && agree (drop (c.loop-at.at + 1) c.args.left.now) (drop (c.loop-at.at + 1) c.args.left_binders.now) (drop (c.loop-at.at + 1) c.args.right.now) (drop (c.loop-at.at + 1) c.args.right_binders.now)) c.if-not-agrees.true)

pub loop-at-preserved : goal.loop-at-preserved
loop-at-preserved c =
    agree-more _ c.args.left.now c.args.left_binders.now c.args.right.now c.args.right_binders.now c.loop-at.at c.index-left-at.result c.index-right-at.result c.agrees.result
    c.loop-at-test.true c.requires.same c.requires.left c.requires.right c.index-left-at.is c.index-right-at.is c.agrees.ensures c.loop-at.invariant
    ∙ ap (λ (b : Bool). b && agree (drop (c.loop-at.at + 1) c.args.left.now) (drop (c.loop-at.at + 1) c.args.left_binders.now) (drop (c.loop-at.at + 1) c.args.right.now) (drop (c.loop-at.at + 1) c.args.right_binders.now)) c.if-not-agrees.false

pub returns : goal.returns
returns c =
    sym (c.loop-at.invariant ∙ agree-end c.args.left.now c.args.left_binders.now c.args.right.now c.args.right_binders.now c.loop-at.at c.loop-at-test.false c.requires.same c.requires.left c.requires.right)
