-- Numbers as words.
-- Source: this project's own.
use Rattle.std.specs.Prelude.{ℕ, List, Option, Some, None, length, nat_le, ◌&&◌, if◌then◌else◌}
use Rattle.std.specs.Str.{all_ascii_digits}
use Rattle.std.specs.Str.Parse.{digits_value}

-- The number that a word names: it is so many decimal digits at most, and the number lies between 1
-- and the largest. Leading zeros count as digits.
abbrev pub number : (digits most : ℕ) → List ℕ → Option ℕ
number digits most word =
    if all_ascii_digits word && (nat_le (length word) digits
    && (nat_le 1 (digits_value 10 word) && nat_le (digits_value 10 word) most))
    then Some (digits_value 10 word) else None
