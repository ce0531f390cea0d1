use Rattle.std.proofs.Common.{◌≡◌, [], take, map}
use Rattle.lt_definitions.specs.Binding.{replaced}
use Rattle.lt_terms.specs.Layout.{forest}
use Rattle.lt_terms.proofs.replacing.subst_free.Given as goal

abbrev pub invariant-loop-node : goal.invariant-loop-node
invariant-loop-node l = l.builder ≡ map (replaced l.name l.ty l.by) (forest [] (take l.node-index l.node-items))
