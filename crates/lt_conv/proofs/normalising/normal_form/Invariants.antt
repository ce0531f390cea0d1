use Rattle.std.proofs.Common.{◌+◌, ◌-◌, ◌*◌}
use Rattle.lt_store.specs.Trees.{tree_at}
use Rattle.lt_kernel.specs.Growing.{Carries}
use Rattle.lt_reductions.specs.Reducts.{normal_form_of}
use Rattle.lt_conv.specs.Machines.{spot, Runs, HasRoom}
use Rattle.lt_conv.proofs.normalising.normal_form.Given as goal

abbrev pub invariant-loop-machine : goal.invariant-loop-machine
invariant-loop-machine g l =
    let t = tree_at l.fn.proof.nodes l.fn.t in
    record {
      carries : Carries l.fn.proof l.proof;
      runs : (r : Runs (normal_form_of t) t l.proof (spot l.machine)) × HasRoom r;
    }

abbrev pub decreases-loop-machine : goal.decreases-loop-machine
decreases-loop-machine g l = (10000 - l.machine.steps) * 196609 + l.machine.room
