-- Places in a text, between its characters.
use Rattle.std.specs.Prelude.{◌≡◌, ℕ, ◌<◌, ◌≤◌, false, List, ◌∷◌, Option, Some, None, true, take, drop, chars, IsCharBoundary}
use Rattle.std.specs.Str.{is_utf8}
use Rattle.std.specs.Str.Lossy.{utf8_valid_len}
use Rattle.lt_texts.specs.declared.lexical.TokenKind.{TokenKind}
use Rattle.lt_definitions.specs.Characters.{behind_gap}
use Rattle.lt_texts.specs.Tokens.{Scanned}

-- the longest front that is UTF-8
abbrev pub front_of : List ℕ → List ℕ
front_of source = take (utf8_valid_len source) source

-- the characters from a place on
abbrev pub ahead_at : List ℕ → ℕ → List ℕ
ahead_at text at = chars (drop at text)

-- the text is the longest front of the source that is UTF-8, and the place is in it
pub record IsOpened (source text : List ℕ) (at : ℕ) : Type 0 where
  pub front : text ≡ take (utf8_valid_len source) source
  pub utf8 : is_utf8 text ≡ true
  pub place : IsCharBoundary text at

-- what is left at the later place is the image of what was left at the earlier
pub record IsBehind (text : List ℕ) (at : ℕ) (f : List ℕ → List ℕ) (to : ℕ) : Type 0 where
  pub chars : ahead_at text to ≡ f (ahead_at text at)
  pub place : IsCharBoundary text to
  pub later : at ≤ to

-- a token is told by its kind and the place behind it
pub record Ends (text : List ℕ) (at : ℕ) (t : Scanned) (p : TokenKind × ℕ) : Type 0 where
  pub kind : p.0 ≡ t.kind
  pub chars : ahead_at text p.1 ≡ t.rest
  pub place : IsCharBoundary text p.1
  pub later : at ≤ p.1

abbrev pub IsFound : List ℕ → ℕ → Option Scanned → Option (TokenKind × ℕ) → Type 0
IsFound text at None None = Unit {0}
IsFound text at (Some t) (Some p) = Ends text at t p
IsFound text at _ _ = ⊥

-- on the way: what is left here has the same image as what was left at the start
pub record Leads (text : List ℕ) (at : ℕ) (f : List ℕ → List ℕ) (to : ℕ) : Type 0 where
  pub same : f (ahead_at text to) ≡ f (ahead_at text at)
  pub place : IsCharBoundary text to
  pub later : at ≤ to

-- behind the gap at the first place, the character c stands at the second, and the third is behind it
pub record Begins (text : List ℕ) (at from c behind : ℕ) : Type 0 where
  pub gap : ahead_at text from ≡ behind_gap false (ahead_at text at)
  pub first : ahead_at text from ≡ c ∷ ahead_at text behind
  pub place : IsCharBoundary text from
  pub next : IsCharBoundary text behind
  pub later : at ≤ from
  pub longer : from < behind
