use Rattle.std.proofs.Common.{◌≡◌, ◌≤◌, ◌++◌, ◌-◌}
use Rattle.lt_gen.specs.Repeats.{repeated}
use Rattle.lt_gen.proofs.generated.add_repeated.Given as goal

abbrev pub invariant-times : goal.invariant-times
invariant-times l = record { text : l.text ≡ l.fn.text ++ repeated l.done l.signs; done : l.done ≤ l.times }

abbrev pub decreases-times : goal.decreases-times
decreases-times l = l.times - l.done
