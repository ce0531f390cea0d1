use Rattle.std.proofs.Common.{◌≡◌, max, drop}
use Rattle.lt_definitions.specs.Binding.{longest}
use Rattle.lt_terms.proofs.BinderLengths.{greatest}
use Rattle.lt_terms.proofs.closing.longest.Given as goal

abbrev pub invariant-loop-node : goal.invariant-loop-node
invariant-loop-node l = longest l.t ≡ max l.longest (greatest (drop l.node-index l.node-items))
