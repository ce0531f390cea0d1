use Rattle.std.proofs.Common.{◌≡◌, drop}
use Rattle.lt_tables.specs.Stacks.{signs}
use Rattle.lt_tables.specs.Views.{stacks_of}
use Rattle.lt_tables.proofs.post_order.read.Given as goal

abbrev pub invariant-loop-sign : goal.invariant-loop-sign
invariant-loop-sign l = signs l.sign-items (stacks_of l.fn.making) ≡ signs (drop l.sign-index l.sign-items) (stacks_of l.making)
