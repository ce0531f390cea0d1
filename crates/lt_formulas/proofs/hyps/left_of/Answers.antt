use Rattle.lt_store.proofs.Lists.{AllBelow-push}
use Rattle.lt_formulas.proofs.Hypotheses.{without-more}
use Rattle.lt_formulas.proofs.hyps.left_of.Goals as goal

pub loop-h-preserved-then-branch : goal.loop-h-preserved-then-branch
loop-h-preserved-then-branch g c = record {
  within = c.loop-h.invariant.within;
  is = rw c.if-branch.true at (without-more _ c.args.p c.args.hyps.now c.loop-h.left _ _ c.loop-h-test.true c.in_ok-same.ensures c.loop-h.invariant.is);
}

pub loop-h-preserved : goal.loop-h-preserved
loop-h-preserved g c = record {
  within = rw c.in_ok-push.ensures.ok (AllBelow-push _ _ _ c.loop-h.invariant.within (c.requires.hyps _ 0 c.loop-h-test.true));
  is = rw c.in_ok-push.ensures.ok (rw c.if-branch.false at (without-more _ c.args.p c.args.hyps.now c.loop-h.left _ _ c.loop-h-test.true c.in_ok-same.ensures c.loop-h.invariant.is));
}
