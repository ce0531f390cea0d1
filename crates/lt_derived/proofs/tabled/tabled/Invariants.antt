use Rattle.std.proofs.Common.{◌<◌, ◌∷◌, [], drop, length}
use Rattle.lt_definitions.specs.Rules.{with_line}
use Rattle.lt_kernel.specs.State.{sequents}
use Rattle.lt_kernel.specs.Growing.{Carries}
use Rattle.lt_programs.specs.Programs.{followed}
use Rattle.lt_tables.specs.Rules.{rules_of}
use Rattle.lt_derived.proofs.TabledLemmas.{IsFollowing}
use Rattle.lt_derived.proofs.tabled.tabled.Given as goal

abbrev pub invariant-loop-k : goal.invariant-loop-k
invariant-loop-k g l = record {
  carries : Carries l.fn.proof l.proof;
  some : 0 < length l.numbers.items;
  following : IsFollowing l.proof l.fn.proof.signature l.numbers.items (rules_of l.types (drop l.k l.rows))
      (with_line (sequents l.fn.proof) l.given (λ s. followed l.fn.proof.signature (s ∷ []) (rules_of l.types l.rows)));
}
