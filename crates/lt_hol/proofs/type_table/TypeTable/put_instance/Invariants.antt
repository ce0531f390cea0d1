use Rattle.std.proofs.Common.{[], take, map}
use Rattle.std.specs.List.{zip}
use Rattle.lt_definitions.specs.Types.{type_instance}
use Rattle.lt_types.specs.Layout.{forest}
use Rattle.lt_hol.specs.TypeTables.{Extends, ExtendsBy, types_at}
use Rattle.lt_hol.proofs.TypeNumbers.{AreNumbers}
use Rattle.lt_hol.proofs.type_table.TypeTable.put_instance.Given as goal

abbrev pub invariant-loop-node : goal.invariant-loop-node
invariant-loop-node l = record {
  numbers : AreNumbers l.self l.numbers.items (map (type_instance (zip l.variables.keys (types_at l.fn.self l.args))) (forest [] (take l.node-index l.node-items)));
  grows : Extends l.fn.self l.self;
  added : ExtendsBy (map (type_instance (zip l.variables.keys (types_at l.fn.self l.args))) (forest [] (take l.node-index l.node-items))) l.fn.self l.self;
}
