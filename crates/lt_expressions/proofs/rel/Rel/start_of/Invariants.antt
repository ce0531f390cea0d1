use Rattle.lt_expressions.specs.Layout.{relation_nodes}
use Rattle.lt_expressions.proofs.PartLemmas.{IsSought}
use Rattle.lt_expressions.proofs.rel.Rel.start_of.Given as goal

abbrev pub invariant-loop-at : goal.invariant-loop-at
invariant-loop-at l = IsSought (relation_nodes 0 l.self) l.end l.at l.missing
