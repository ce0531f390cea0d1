use Rattle.std.proofs.Common.{◌≡◌, map, take}
use Rattle.lt_derived.proofs.putting.names_of.Given as goal

abbrev pub invariant-loop-i : goal.invariant-loop-i
invariant-loop-i l = l.names ≡ map (λ p. p.0) (take l.i l.pairs)
