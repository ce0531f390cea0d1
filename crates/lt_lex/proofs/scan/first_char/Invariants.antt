use Rattle.std.proofs.Common.{◌-◌, length, false}
use Rattle.lt_definitions.specs.Characters.{behind_gap}
use Rattle.lt_lex.specs.Places.{Leads}
use Rattle.lt_lex.proofs.scan.first_char.Given as goal

abbrev pub invariant-gap : goal.invariant-gap
invariant-gap l = Leads l.text l.fn.at (behind_gap false) l.at

abbrev pub decreases-gap : goal.decreases-gap
decreases-gap l = length l.text - l.at
