use Rattle.std.proofs.Common.{[], take}
use Rattle.lt_types.specs.Layout.{forest}
use Rattle.lt_hol.proofs.TypeFaults.{IsFirst, IsWrong, wrong_fault}
use Rattle.lt_hol.proofs.signature.Signature.check_type.Given as goal

abbrev pub invariant-loop-at : goal.invariant-loop-at
invariant-loop-at l = IsFirst l.self l.ty (forest [] (take l.at l.nodes)) l.skipped (wrong_fault l.self (λ b. b.now) l.wrong) × IsWrong l.self (λ b. b.now) l.wrong
