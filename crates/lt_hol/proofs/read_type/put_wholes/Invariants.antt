use Rattle.std.proofs.Common.{◌≡◌, ◌++◌, drop, reverse}
use Rattle.lt_hol.specs.Makings.{wholes}
use Rattle.lt_hol.proofs.read_type.put_wholes.Given as goal

abbrev pub invariant-loop-i : goal.invariant-loop-i
invariant-loop-i l = reverse l.tasks.items ≡ wholes (drop l.i l.ids) ++ reverse l.fn.tasks.items
