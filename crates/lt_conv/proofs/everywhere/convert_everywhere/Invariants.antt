use Rattle.lt_store.specs.Trees.{tree_at}
use Rattle.lt_kernel.specs.State.{statements}
use Rattle.lt_kernel.specs.Growing.{Carries}
use Rattle.lt_conv.specs.Places.{levels_of, LeadsOn, moves_left}
use Rattle.lt_conv.proofs.everywhere.convert_everywhere.Given as goal

abbrev pub invariant-loop-place : goal.invariant-loop-place
invariant-loop-place g l =
    let s = l.fn.proof in
    record {
      carries : Carries s l.proof;
      leads : LeadsOn (g.A.Conversion.gives l.inner (statements s)) (tree_at s.nodes l.fn.t) l.proof (levels_of l.work) l.work.lines l.place;
    }

abbrev pub decreases-loop-place : goal.decreases-loop-place
decreases-loop-place g l = moves_left l.proof.nodes (levels_of l.work) l.place
