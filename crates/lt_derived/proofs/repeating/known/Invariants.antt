use Rattle.std.proofs.Common.{take}
use Rattle.lt_kernel.specs.State.{sequents}
use Rattle.lt_derived.specs.Premises.{AreKnown}
use Rattle.lt_derived.proofs.repeating.known.Given as goal

abbrev pub invariant-loop-k : goal.invariant-loop-k
invariant-loop-k g l = AreKnown (sequents l.proof) (take l.k l.numbers)
