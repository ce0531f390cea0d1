use Rattle.std.proofs.Common.{◌≡◌, map, take}
use Rattle.lt_derived.proofs.putting.types_of.Given as goal

abbrev pub invariant-loop-i : goal.invariant-loop-i
invariant-loop-i l = l.types ≡ map (λ p. p.1) (take l.i l.pairs)
