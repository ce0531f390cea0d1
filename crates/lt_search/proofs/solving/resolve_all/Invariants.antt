use Rattle.std.proofs.Common.{◌≡◌, map, take}
use Rattle.lt_search.specs.ExpressionView.{expression_tree}
use Rattle.lt_search.specs.Solving.{resolved_trees}
use Rattle.lt_search.proofs.solving.resolve_all.Given as goal

abbrev pub invariant-loop-part : goal.invariant-loop-part
invariant-loop-part l = map expression_tree l.all.items ≡ resolved_trees l.bindings.pairs (take l.part-index l.parts)
