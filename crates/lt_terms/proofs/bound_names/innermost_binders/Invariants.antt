use Rattle.std.proofs.Common.{[], take, reverse}
use Rattle.lt_terms.specs.Layout.{forest}
use Rattle.lt_terms.proofs.BinderPasses.{IsFinding}
use Rattle.lt_terms.proofs.bound_names.innermost_binders.Given as goal

abbrev pub invariant-loop-at : goal.invariant-loop-at
invariant-loop-at l = IsFinding l.t (forest [] (take l.at l.nodes)) l.pending (reverse l.found.items)
