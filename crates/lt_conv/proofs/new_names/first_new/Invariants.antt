use Rattle.std.proofs.Common.{◌-◌, length}
use Rattle.lt_conv.specs.Walks.{AreTaken}
use Rattle.lt_conv.proofs.new_names.first_new.Given as goal

abbrev pub invariant-loop-name : goal.invariant-loop-name
invariant-loop-name l = AreTaken l.number l.names.keys

abbrev pub decreases-loop-name : goal.decreases-loop-name
decreases-loop-name l = length l.names.keys - l.number
