use Rattle.std.proofs.Common.{take}
use Rattle.lt_hol.specs.TypeTables.{Extends}
use Rattle.lt_hol.proofs.TypeNumbers.{AreNumbers}
use Rattle.lt_hol.proofs.typing.intern_all.Given as goal

abbrev pub invariant-loop-ty : goal.invariant-loop-ty
invariant-loop-ty l = record {
  numbers : AreNumbers l.table l.numbers.items (take l.ty-index l.types);
  grows : Extends l.fn.table l.table;
}
