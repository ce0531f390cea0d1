use Rattle.std.proofs.Common.{◌≤◌, length}
use Rattle.lt_session.specs.Stepping.{IsTheory}
use Rattle.lt_session.proofs.Runnings.{IsOnWay}
use Rattle.lt_session.proofs.running.run_text.Given as goal

abbrev pub invariant-commands : goal.invariant-commands
invariant-commands g l = record {
  way : IsOnWay l.fn.session.limit l.summary l.text l.session l.script.left (g.O.Sink.written l.fn.out) (g.O.Sink.written l.out);
  theory : IsTheory l.script;
  later : g.O.Sink.faults l.fn.out ≤ g.O.Sink.faults l.out;
}

abbrev pub decreases-commands : goal.decreases-commands
decreases-commands g l = length l.script.left.ahead
