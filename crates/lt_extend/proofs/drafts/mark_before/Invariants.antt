use Rattle.std.proofs.Common.{drop, take}
use Rattle.lt_extend.specs.Theories.{items_of, context_behind}
use Rattle.lt_extend.proofs.Counts.{total, IsMarkWith}
use Rattle.lt_extend.proofs.drafts.mark_before.Given as goal

abbrev pub invariant-loop-at : goal.invariant-loop-at
invariant-loop-at l = IsMarkWith (context_behind (take l.count l.items)) (total (items_of (drop l.at l.items))) l.mark
