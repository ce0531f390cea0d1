use Rattle.std.proofs.Common.{◌-◌, length}
use Rattle.std.specs.Prelude.{not, ◌==◌}
use Rattle.lt_definitions.specs.Characters.{behind_run}
use Rattle.lt_lex.specs.Places.{Leads}
use Rattle.lt_lex.proofs.scan.past_line.Given as goal

abbrev pub invariant-line : goal.invariant-line
invariant-line l = Leads l.text l.fn.at (behind_run (λ c. not (c == 10))) l.at

abbrev pub decreases-line : goal.decreases-line
decreases-line l = length l.text - l.at
