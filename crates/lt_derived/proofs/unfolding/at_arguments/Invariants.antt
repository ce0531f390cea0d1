use Rattle.lt_definitions.specs.Rules.{with_line}
use Rattle.lt_store.specs.Trees.{trees}
use Rattle.lt_kernel.specs.State.{sequents}
use Rattle.lt_kernel.specs.Growing.{Carries}
use Rattle.lt_kernel.specs.Reaching.{Holds}
use Rattle.lt_programs.specs.Programs.{at_arguments}
use Rattle.lt_derived.proofs.UnfoldingLemmas.{rest_with}
use Rattle.lt_derived.proofs.unfolding.at_arguments.Given as goal

abbrev pub invariant-loop-t : goal.invariant-loop-t
invariant-loop-t g l = record {
  carries : Carries l.fn.proof l.proof;
  holds : Holds l.proof l.line (rest_with l.fn.proof l.terms l.t-index)
      (with_line (sequents l.fn.proof) l.i (at_arguments l.fn.proof.signature (trees l.fn.proof.nodes l.terms)));
}
