use Rattle.std.proofs.Common.{◌∙◌, ◌-◌, sym, arith}
use Rattle.lt_forms.proofs.StatementLemmas.{opened-next, opened-end}
use Rattle.lt_forms.proofs.statements.opened_under.Goals as goal

pub loop-at-preserved : goal.loop-at-preserved
loop-at-preserved c = (
  opened-next c.args.binders.now c.loop-at.at (c.loop-at.at - 1) c.index-binders-at.result c.loop-at.t c.in_ok-t.t (omega (arith, c.loop-at-test.true)) c.loop-at.invariant.1 c.index-binders-at.is
      c.in_ok-t.ensures ∙ c.loop-at.invariant.0,
  omega (arith, c.loop-at.invariant.1),
)

pub returns : goal.returns
returns c = sym (opened-end c.args.binders.now c.loop-at.at c.loop-at.t (omega (arith, c.loop-at-test.false))) ∙ c.loop-at.invariant.0
