use Rattle.std.proofs.Common.{sym, ◌∙◌}
use Rattle.lt_store.proofs.TreeLemmas.{extends_on}
use Rattle.lt_store.proofs.Lists.{yes_more, no_more}
use Rattle.lt_store.proofs.passes.find_in.Goals as goal

pub returns-then-branch-eq1-clause-is : goal.returns-then-branch-eq1-clause-is
returns-then-branch-eq1-clause-is g c =
    let whole = extends_on _ _ _ c.loop-root.invariant.kept c.in_ok-run.ensures.kept in
    sym (yes_more _ _ c.args.sought c.args.roots.now _ _ whole c.requires c.loop-root-test.true c.in_ok-run.ensures.is c.if-branch-eq1.true) ∙ c.loop-root.invariant.none

pub loop-root-preserved : goal.loop-root-preserved
loop-root-preserved g c =
    let whole = extends_on _ _ _ c.loop-root.invariant.kept c.in_ok-run.ensures.kept in
    record {
      kept = whole;
      sound = c.in_ok-run.ensures.sound;
      none = sym (no_more _ _ c.args.sought c.args.roots.now _ _ whole c.requires c.loop-root-test.true c.in_ok-run.ensures.is c.if-branch-eq1.false) ∙ c.loop-root.invariant.none;
    }
