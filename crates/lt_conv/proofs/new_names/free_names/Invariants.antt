use Rattle.std.proofs.Common.{◌-◌, length}
use Rattle.lt_conv.proofs.Visited.{IsWalked}
use Rattle.lt_conv.proofs.new_names.free_names.Given as goal

abbrev pub invariant-loop-at : goal.invariant-loop-at
invariant-loop-at g l = IsWalked (g.S.TermStore.nodes l.store) l.t l.ids.keys l.names.keys l.at

abbrev pub decreases-loop-at : goal.decreases-loop-at
decreases-loop-at g l = length (g.S.TermStore.nodes l.store) - l.at
