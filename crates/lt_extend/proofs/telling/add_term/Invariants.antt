use Rattle.std.proofs.Common.{[], take}
use Rattle.lt_terms.specs.Layout.{forest}
use Rattle.lt_extend.specs.Telling.{KeepsRules}
use Rattle.lt_extend.proofs.Placed.{IsLaid}
use Rattle.lt_extend.proofs.telling.add_term.Given as goal

abbrev pub invariant-loop-node : goal.invariant-loop-node
invariant-loop-node l = record {
  laid : IsLaid l.lines.nodes l.places.items (forest [] (take l.node-index l.node-items));
  kept : KeepsRules l.fn.lines l.lines;
}
