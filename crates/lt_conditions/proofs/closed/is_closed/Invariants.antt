use Rattle.std.proofs.Common.{◌≡◌, drop}
use Rattle.lt_definitions.specs.Terms.{is_closed}
use Rattle.lt_conditions.proofs.ClosedTerms.{none_free}
use Rattle.lt_conditions.proofs.closed.is_closed.Given as goal

abbrev pub invariant-loop-node : goal.invariant-loop-node
invariant-loop-node l = is_closed l.t ≡ none_free (drop l.node-index l.node-items)
