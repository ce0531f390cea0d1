use Rattle.std.proofs.Common.{[], take}
use Rattle.lt_types.specs.Layout.{forest}
use Rattle.lt_hol.specs.TypeTables.{Extends, ExtendsBy}
use Rattle.lt_hol.proofs.TypeNumbers.{AreNumbers}
use Rattle.lt_hol.proofs.type_table.TypeTable.intern_nodes.Given as goal

abbrev pub invariant-loop-node : goal.invariant-loop-node
invariant-loop-node l = record {
  numbers : AreNumbers l.self l.numbers.items (forest [] (take l.node-index l.node-items));
  grows : Extends l.fn.self l.self;
  added : ExtendsBy (forest [] (take l.node-index l.node-items)) l.fn.self l.self;
}
