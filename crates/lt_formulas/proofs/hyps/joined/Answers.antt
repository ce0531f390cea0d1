use Rattle.std.proofs.Common.{◌∙◌}
use Rattle.lt_store.proofs.Lists.{AllBelow-push}
use Rattle.lt_formulas.proofs.Hypotheses.{union-more}
use Rattle.lt_formulas.proofs.hyps.joined.Goals as goal

pub loop-h-preserved-then-branch : goal.loop-h-preserved-then-branch
loop-h-preserved-then-branch g c = record {
  within = c.loop-h.invariant.within;
  is = (rw c.if-branch.true at (union-more (g.S.TermStore.nodes c.args.store.now) c.args.more.now c.loop-h.all _ _ c.loop-h-test.true (rw c.as_slice.ensures at c.in_ok-has_term.ensures))) ∙ c.loop-h.invariant.is;
}

pub loop-h-preserved : goal.loop-h-preserved
loop-h-preserved g c = record {
  within = rw c.in_ok-push.ensures.ok (AllBelow-push _ _ _ c.loop-h.invariant.within (c.requires.more _ 0 c.loop-h-test.true));
  is = rw c.in_ok-push.ensures.ok ((rw c.if-branch.false at (union-more (g.S.TermStore.nodes c.args.store.now) c.args.more.now c.loop-h.all _ _ c.loop-h-test.true (rw c.as_slice.ensures at c.in_ok-has_term.ensures))) ∙ c.loop-h.invariant.is);
}
