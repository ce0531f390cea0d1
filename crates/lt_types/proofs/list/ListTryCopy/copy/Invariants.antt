use Rattle.std.proofs.Common.{◌≡◌}
use Rattle.std.proofs.Common.{take}
use Rattle.lt_types.proofs.list.ListTryCopy.copy.Given as goal

-- the copies so far are the things so far
abbrev pub invariant-loop-item : goal.invariant-loop-item
invariant-loop-item g l = l.items.items ≡ take l.item-index l.item-items
