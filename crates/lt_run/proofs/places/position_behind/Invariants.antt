use Rattle.std.proofs.Common.{take}
use Rattle.lt_run.specs.Places.{IsBehind}
use Rattle.lt_run.proofs.places.position_behind.Given as goal

abbrev pub invariant-loop-byte : goal.invariant-loop-byte
invariant-loop-byte l = IsBehind (take l.byte-index l.before) l.position
