use Rattle.lt_definitions.specs.Rules.{with_line}
use Rattle.lt_kernel.specs.State.{sequents}
use Rattle.lt_kernel.specs.Growing.{Carries}
use Rattle.lt_kernel.specs.Reaching.{Holds}
use Rattle.lt_programs.specs.Programs.{detached_by}
use Rattle.lt_derived.proofs.Repeated.{rest_by}
use Rattle.lt_derived.proofs.repeating.chain.Given as goal

abbrev pub invariant-loop-k : goal.invariant-loop-k
invariant-loop-k g l = record {
  carries : Carries l.fn.proof l.proof;
  holds : Holds l.proof l.line (rest_by l.fn.proof l.premises l.k)
      (with_line (sequents l.fn.proof) l.i (detached_by (sequents l.fn.proof) l.premises));
}
