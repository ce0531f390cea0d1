use Rattle.std.proofs.Common.{sym, ◌∙◌}
use Rattle.lt_formulas.proofs.Hypotheses.{any-more}
use Rattle.lt_formulas.proofs.hyps.has_term.Goals as goal

pub returns-then-branch : goal.returns-then-branch
returns-then-branch g c =
    sym (rw c.if-branch.true at (any-more _ c.args.p c.args.ids.now _ _ c.loop-h-test.true c.in_ok-same.ensures)) ∙ c.loop-h.invariant

pub loop-h-preserved : goal.loop-h-preserved
loop-h-preserved g c =
    sym (rw c.if-branch.false at (any-more _ c.args.p c.args.ids.now _ _ c.loop-h-test.true c.in_ok-same.ensures)) ∙ c.loop-h.invariant
