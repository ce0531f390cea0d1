use Rattle.std.proofs.Common.{◌≡◌, drop}
use Rattle.lt_laws.specs.Registering.{first_missing}
use Rattle.lt_laws.proofs.registered.Laws.first_missing.Given as goal

abbrev pub invariant-loop-i : goal.invariant-loop-i
invariant-loop-i l = first_missing l.wanted l.self ≡ first_missing (drop l.i l.wanted) l.self
