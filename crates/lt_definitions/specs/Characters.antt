-- The characters that tokens are made of, and where a run of characters ends.
-- Source: Unicode Standard Annex 31, for names; white space, comments and numbers are this
-- project's own.
use Rattle.std.specs.Prelude.{ℕ, ◌==◌, ◌||◌, ◌&&◌, ◌+◌, ◌-◌, ◌*◌, ◌^◌, Bool, not, true, false, List, [], ◌∷◌, Option, Some, None, if◌then◌else◌, nat_lt}
use Rattle.std.specs.Char.{is_ascii_digit}
use Rattle.std.specs.List.{list_all}
use Rattle.unicode_ident.specs.Ident.{is_xid_start, is_xid_continue}

-- space (32), tab (9), carriage return (13), line feed (10)
abbrev pub is_white : ℕ → Bool
is_white c = (c == 32) || ((c == 9) || ((c == 13) || (c == 10)))

-- whether a name may begin so: by Unicode Standard Annex 31, or with the low line (95)
abbrev pub starts_name : ℕ → Bool
starts_name c = is_xid_start c || (c == 95)

-- a character that begins a name, then any number of those that go on one
abbrev pub is_name : List ℕ → Bool
is_name [] = false
is_name (c ∷ cs) = starts_name c && list_all is_xid_continue cs

-- one or more digits, which are 0 to 9 alone
abbrev pub is_numeral : List ℕ → Bool
is_numeral [] = false
is_numeral (c ∷ cs) = is_ascii_digit c && list_all is_ascii_digit cs

-- what more digits make of a number (the digit 0 is 48)
abbrev pub more_digits : ℕ → List ℕ → ℕ
more_digits n [] = n
more_digits n (c ∷ cs) = more_digits (n * 10 + (c - 48)) cs

-- the value of a numeral that is at most 2^32 - 1
abbrev pub number_of : List ℕ → Option ℕ
number_of cs =
    if is_numeral cs && nat_lt (more_digits 0 cs) (2 ^ 32) then Some (more_digits 0 cs) else None

-- the longest front whose characters pass
abbrev pub run_of : (ℕ → Bool) → List ℕ → List ℕ
run_of p [] = []
run_of p (c ∷ cs) = if p c then c ∷ run_of p cs else []

-- and what is behind it
abbrev pub behind_run : (ℕ → Bool) → List ℕ → List ℕ
behind_run p [] = []
behind_run p (c ∷ cs) = if p c then behind_run p cs else (c ∷ cs)

-- what is behind white space and comments, from within a comment or from outside;
-- a number sign (35) begins a comment, which ends before the next line feed (10)
abbrev pub behind_gap : Bool → List ℕ → List ℕ
behind_gap in_comment [] = []
behind_gap true (c ∷ cs) = behind_gap (not (c == 10)) cs
behind_gap false (c ∷ cs) = if c == 35 then behind_gap true cs
    else (if is_white c then behind_gap false cs else (c ∷ cs))
