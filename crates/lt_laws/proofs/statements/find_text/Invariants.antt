use Rattle.std.proofs.Common.{◌≡◌, drop}
use Rattle.lt_definitions.specs.Types.{found}
use Rattle.lt_laws.specs.Tables.{texts}
use Rattle.lt_laws.proofs.statements.find_text.Given as goal

abbrev pub invariant-loop-i : goal.invariant-loop-i
invariant-loop-i l = found l.name (texts l.laws) ≡ found l.name (texts (drop l.i l.laws))
