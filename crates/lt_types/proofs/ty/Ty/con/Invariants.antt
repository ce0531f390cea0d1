use Rattle.std.proofs.Common.{◌≡◌, take}
use Rattle.lt_types.proofs.ty.Ty.con.Given as goal

abbrev pub invariant-loop-arg : goal.invariant-loop-arg
invariant-loop-arg l = l.builder ≡ take l.arg-index l.arg-items
