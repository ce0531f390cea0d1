use Rattle.std.proofs.Common.{◌≤◌, take}
use Rattle.lt_run.proofs.Joins.{IsJoining}
use Rattle.lt_run.proofs.files.join_files.Given as goal

abbrev pub invariant-loop-at : goal.invariant-loop-at
invariant-loop-at g l = record {
  files : IsJoining l.most (g.L.Library.files l.fn.lib) (g.L.Library.files l.lib) (take l.at l.names) l.joined;
  later : g.L.Library.faults l.fn.lib ≤ g.L.Library.faults l.lib;
}
