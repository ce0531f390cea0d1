use Rattle.std.proofs.Common.{◌≡◌, arith}
use Rattle.std.specs.Prelude.{max}
use Rattle.std.proofs.lemmas.Grind.{common_steps}
use Rattle.lt_store.proofs.TreeLemmas.{extends_on}
use Rattle.lt_store.proofs.LongestNames.{longest_more}
use Rattle.lt_store.proofs.passes.longest_free.Goals as goal

pub loop-t-preserved : goal.loop-t-preserved
loop-t-preserved g c =
    let whole = extends_on _ _ _ c.loop-t.invariant.kept c.in_ok-run.ensures.kept in
    let more : c.max-longest.result ≡ max c.loop-t.longest c.in_ok-run.field-0 = grind (arith, common_steps) in
    record {
      kept = whole;
      sound = c.in_ok-run.ensures.sound;
      longest = rw more (longest_more _ _ c.args.ts.now _ _ _ whole c.requires c.loop-t-test.true c.in_ok-run.ensures.is c.loop-t.invariant.longest);
    }
