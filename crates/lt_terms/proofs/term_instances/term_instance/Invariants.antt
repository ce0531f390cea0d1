use Rattle.std.proofs.Common.{◌≡◌, [], take, map}
use Rattle.lt_definitions.specs.Terms.{term_instance}
use Rattle.lt_terms.specs.Layout.{forest}
use Rattle.lt_terms.proofs.term_instances.term_instance.Given as goal

abbrev pub invariant-loop-node : goal.invariant-loop-node
invariant-loop-node l = l.builder ≡ map (term_instance l.by) (forest [] (take l.node-index l.node-items))
