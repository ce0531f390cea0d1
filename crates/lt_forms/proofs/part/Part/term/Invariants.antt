use Rattle.std.proofs.Common.{◌≡◌, [], take}
use Rattle.lt_terms.specs.Layout.{forest}
use Rattle.lt_forms.proofs.part.Part.term.Given as goal

abbrev pub invariant-loop-node : goal.invariant-loop-node
invariant-loop-node l = l.builder ≡ forest [] (take l.node-index l.node-items)
