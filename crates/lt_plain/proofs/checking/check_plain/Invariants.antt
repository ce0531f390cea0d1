use Rattle.std.proofs.Common.{length}
use Rattle.lt_extend.specs.Theories.{items_of, IsInStep}
use Rattle.lt_walks.proofs.OnTheWay.{ComesTo}
use Rattle.lt_plain.specs.Stepping.{IsPlain}
use Rattle.lt_plain.proofs.checking.check_plain.Given as goal

abbrev pub invariant-items : goal.invariant-items
invariant-items g l = record {
  comes : ComesTo l.text (items_of l.th.items) l.script.left;
  plain : IsPlain l.script;
  in_step : IsInStep l.th;
}

abbrev pub decreases-items : goal.decreases-items
decreases-items g l = length l.script.left.ahead
