use Rattle.std.proofs.Common.{◌≡◌, length, take}
use Rattle.lt_unify.specs.Codes.{HasMore}
use Rattle.lt_search.specs.Solving.{equation_trees_of, GoesOn}
use Rattle.lt_search.proofs.solving.solve_all.Given as goal

abbrev pub invariant-loop-equation : goal.invariant-loop-equation
invariant-loop-equation l = record {
  kept : HasMore l.fn.bindings l.bindings;
  mark_is : l.mark ≡ length l.fn.bindings.pairs;
  goes : GoesOn l.fn.bindings.pairs (equation_trees_of (take l.equation-index l.equations)) l.bindings.pairs;
}
