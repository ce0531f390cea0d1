use Rattle.std.proofs.Common.{◌≤◌, length}
use Rattle.lt_extend.specs.Theories.{IsInStep}
use Rattle.lt_plain.specs.Stepping.{IsPlain}
use Rattle.lt_run.proofs.Walking.{IsOnWay}
use Rattle.lt_run.proofs.walk.walk_text.Given as goal

abbrev pub invariant-items : goal.invariant-items
invariant-items g l = record {
  way : IsOnWay l.text l.th.items l.script.left (g.O.Sink.written l.fn.out) (g.O.Sink.written l.out);
  plain : IsPlain l.script;
  in_step : IsInStep l.th;
  later : g.O.Sink.faults l.fn.out ≤ g.O.Sink.faults l.out;
}

abbrev pub decreases-items : goal.decreases-items
decreases-items g l = length l.script.left.ahead
