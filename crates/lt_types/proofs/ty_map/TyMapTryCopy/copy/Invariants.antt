use Rattle.std.proofs.Common.{◌≡◌, take}
use Rattle.lt_types.proofs.ty_map.TyMapTryCopy.copy.Given as goal

-- the copied pairs are the first ones
abbrev pub invariant-loop-i : goal.invariant-loop-i
invariant-loop-i l = l.map ≡ take l.i l.self
