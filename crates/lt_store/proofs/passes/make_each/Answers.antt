use Rattle.lt_store.proofs.TreeLemmas.{extends_on}
use Rattle.lt_store.proofs.Lists.{each_more, AllBelow-push, AllBelow-wider}
use Rattle.lt_store.proofs.passes.make_each.Goals as goal

pub loop-root-preserved : goal.loop-root-preserved
loop-root-preserved g c =
    let more = c.in_ok-id.ensures.kept in
    let was = c.loop-root.invariant in
    record {
      kept = extends_on _ _ _ was.kept more;
      sound = c.in_ok-id.ensures.sound;
      below = rw c.in_ok-push.ensures.ok (AllBelow-push _ c.loop-root.made _ (AllBelow-wider _ _ c.loop-root.made more.grows was.below) c.in_ok-id.ensures.is.0);
      is = rw c.in_ok-push.ensures.ok (each_more _ _ _ c.args.change c.args.roots.now c.loop-root.made _ _ was.kept more c.requires.change c.requires.roots was.below c.loop-root-test.true was.is c.in_ok-id.ensures.is);
    }
