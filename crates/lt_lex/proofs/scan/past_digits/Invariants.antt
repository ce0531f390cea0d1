use Rattle.std.proofs.Common.{◌-◌, length}
use Rattle.std.specs.Char.{is_ascii_digit}
use Rattle.lt_definitions.specs.Characters.{behind_run}
use Rattle.lt_lex.specs.Places.{Leads}
use Rattle.lt_lex.proofs.scan.past_digits.Given as goal

abbrev pub invariant-digits : goal.invariant-digits
invariant-digits l = Leads l.text l.fn.at (behind_run is_ascii_digit) l.at

abbrev pub decreases-digits : goal.decreases-digits
decreases-digits l = length l.text - l.at
