use Rattle.std.proofs.Common.{◌≡◌, ◌-◌, ◌<◌, ◌^◌, length}
use Rattle.std.specs.Prelude.{chars, IsCharBoundary}
use Rattle.lt_definitions.specs.Characters.{number_of}
use Rattle.lt_lex.specs.Places.{ahead_at}
use Rattle.lt_lex.specs.Numbers.{with_digits}
use Rattle.lt_lex.proofs.number.parse_number.Given as goal

abbrev pub invariant-digits : goal.invariant-digits
invariant-digits l = record {
  same : with_digits l.value (ahead_at l.text l.at) ≡ number_of (chars l.text);
  place : IsCharBoundary l.text l.at;
  small : l.value < 2 ^ 32;
}

abbrev pub decreases-digits : goal.decreases-digits
decreases-digits l = length l.text - l.at
