use Rattle.std.proofs.Common.{◌≡◌, ◌++◌, take}
use Rattle.lt_definitions.specs.Printing.{printed_lines}
use Rattle.lt_hol.specs.Lines.{rules_of}
use Rattle.lt_syntax.proofs.lines.write_lines.Given as goal

abbrev pub invariant-loop-i : goal.invariant-loop-i
invariant-loop-i l = l.text ≡ l.initial.text ++ printed_lines (take l.i (rules_of l.lines.nodes l.lines.lines))
