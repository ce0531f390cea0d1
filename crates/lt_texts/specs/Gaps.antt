-- What stands between tokens: white space and comments.
-- Source: this project's own.
use Rattle.std.specs.Prelude.{◌≡◌, ℕ, ◌==◌, ◌||◌, Bool, not, true, List, [], ◌∷◌, ◌++◌}
use Rattle.std.specs.List.{list_all}
use Rattle.lt_definitions.specs.Characters.{is_white}

-- a white character, or a comment by its characters behind the number sign (35)
pub data Blank : Type 0 where
  white : ℕ → Blank
  comment : List ℕ → Blank

-- the characters of these parts, and the rest behind them
abbrev pub with_gap : List Blank → List ℕ → List ℕ
with_gap [] rest = rest
with_gap (white c ∷ parts) rest = c ∷ with_gap parts rest
with_gap (comment cs ∷ parts) rest = 35 ∷ cs ++ with_gap parts rest

-- the text is at a line's end (a line feed is 10) or its own
abbrev pub ends_line : List ℕ → Bool
ends_line [] = true
ends_line (c ∷ cs) = c == 10

-- the part may stand before this: a comment goes as far as its line
abbrev pub MayStand : Blank → List ℕ → Type 0
MayStand (white c) later = is_white c ≡ true
MayStand (comment cs) later = (list_all (λ c. not (c == 10)) cs ≡ true) × (ends_line later ≡ true)

-- Each part may stand before those behind it and the rest.
abbrev pub IsGap : List Blank → List ℕ → Type 0
IsGap [] rest = Unit {0}
IsGap (b ∷ parts) rest = MayStand b (with_gap parts rest) × IsGap parts rest

-- neither white space nor a comment begins here
abbrev pub begins_none : List ℕ → Bool
begins_none [] = true
begins_none (c ∷ cs) = not ((c == 35) || is_white c)

-- white space and comments lead from the one to the other, and no further
pub record IsPast (text rest : List ℕ) : Type 0 where
  pub gap : List Blank
  pub text_is : text ≡ with_gap gap rest
  pub parts : IsGap gap rest
  pub ends : begins_none rest ≡ true
