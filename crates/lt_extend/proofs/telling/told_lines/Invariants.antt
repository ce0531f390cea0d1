use Rattle.std.proofs.Common.{◌≡◌}
use Rattle.lt_extend.specs.Telling.{rules_at, rules_in}
use Rattle.lt_extend.proofs.telling.told_lines.Given as goal

abbrev pub invariant-loop-i : goal.invariant-loop-i
invariant-loop-i g l = rules_in l.lines ≡ rules_at l.proof l.i
