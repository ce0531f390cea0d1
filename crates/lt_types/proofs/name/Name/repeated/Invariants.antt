use Rattle.std.proofs.Common.{string_bytes}
use Rattle.lt_types.proofs.LongNames.{IsLong}
use Rattle.lt_types.proofs.name.Name.repeated.Given as goal

abbrev pub invariant-loop : goal.invariant-loop
invariant-loop l = IsLong l.letter l.counter (string_bytes l.text)
