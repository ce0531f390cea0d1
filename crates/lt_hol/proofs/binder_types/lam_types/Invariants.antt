use Rattle.std.proofs.Common.{take, map}
use Rattle.lt_hol.specs.Outcomes.{AreHints, binder_type}
use Rattle.lt_hol.specs.TypeTables.{Extends}
use Rattle.lt_hol.proofs.binder_types.lam_types.Given as goal

abbrev pub invariant-loop-node : goal.invariant-loop-node
invariant-loop-node l = record {
  hints : AreHints l.table l.types.items (map binder_type (take l.node-index l.nodes));
  grows : Extends l.fn.table l.table;
}
