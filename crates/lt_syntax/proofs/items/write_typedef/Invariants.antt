use Rattle.std.proofs.Common.{◌≡◌, ◌++◌, take}
use Rattle.lt_syntax.specs.ItemText.{spaced_params}
use Rattle.lt_syntax.proofs.items.write_typedef.Given as goal

abbrev pub invariant-loop-param : goal.invariant-loop-param
invariant-loop-param l = l.text ≡ l.initial.text ++ spaced_params (take l.param-index l.param-items)
