-- A number, digit by digit.
use Rattle.std.specs.Prelude.{ℕ, ◌+◌, ◌-◌, ◌*◌, ◌^◌, ◌&&◌, List, Option, Some, None, if◌then◌else◌, nat_lt}
use Rattle.std.specs.Char.{is_ascii_digit}
use Rattle.std.specs.List.{list_all}
use Rattle.lt_definitions.specs.Characters.{more_digits}

-- with one more digit, where it is one and the number stays below 2^32
abbrev pub with_digit : ℕ → ℕ → Option ℕ
with_digit n c = if is_ascii_digit c && nat_lt (n * 10 + (c - 48)) (2 ^ 32) then Some (n * 10 + (c - 48)) else None

-- with these digits behind it
abbrev pub with_digits : ℕ → List ℕ → Option ℕ
with_digits n cs = if list_all is_ascii_digit cs && nat_lt (more_digits n cs) (2 ^ 32) then Some (more_digits n cs) else None
