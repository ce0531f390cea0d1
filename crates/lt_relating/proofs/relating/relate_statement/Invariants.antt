use Rattle.std.specs.Prelude.{drop, reverse}
use Rattle.lt_kernel.specs.Growing.{Carries}
use Rattle.lt_relating.specs.Walks.{parts_at, IsUnderway}
use Rattle.lt_relating.proofs.WalkLemmas.{whole_of}
use Rattle.lt_relating.proofs.relating.relate_statement.Given as goal

abbrev pub invariant-loop-k : goal.invariant-loop-k
invariant-loop-k g l = record {
  carries : Carries l.fn.proof l.proof;
  along : IsUnderway l.proof l.fn.proof l.labels (reverse l.lines.items)
      (parts_at l.fn.proof.nodes (drop l.k l.parts)) (whole_of l.fn.proof l.labels l.parts);
}
