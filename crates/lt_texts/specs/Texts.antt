-- What stands next in a text that is read from its begin.
-- Source: this project's own.
use Rattle.std.specs.Prelude.{ℕ, ◌-◌, ◌==◌, false, List, [], ◌∷◌, length, take, Option, Some, None, if◌then◌else◌, encode_utf8_all}
use Rattle.std.specs.Str.{chars}
use Rattle.std.specs.Str.Lossy.{utf8_valid_len}
use Rattle.lt_texts.specs.declared.lexical.Lexed.{Lexed}
use Rattle.lt_texts.specs.declared.lexical.Lexed.TheVariants.{Token, End, BadByte, BadChar}
use Rattle.lt_definitions.specs.Characters.{behind_gap}
use Rattle.lt_texts.specs.Tokens.{Scanned, token_at}

-- a text in reading: its bytes, and the characters that are still ahead, up to its end or its first
-- byte that is no UTF-8
pub record Left : Type 0 where
  pub source : List ℕ
  pub ahead : List ℕ

-- all of a text
abbrev pub left_of : List ℕ → Left
left_of text = record { source = text; ahead = chars (take (utf8_valid_len text) text) }

-- the place behind the characters of a text
abbrev pub end_of : Left → ℕ
end_of s = utf8_valid_len s.source

-- the place of its last characters
abbrev pub place_of : Left → List ℕ → ℕ
place_of s cs = end_of s - length (encode_utf8_all cs)

-- the place that the reading has come to
abbrev pub here : Left → ℕ
here s = place_of s s.ahead

-- behind white space and comments
abbrev pub past_gap : Left → List ℕ
past_gap s = behind_gap false s.ahead

-- where no character is left
abbrev pub ending : Left → Lexed
ending s = if end_of s == length s.source then End else BadByte (end_of s)

-- where these characters are left
abbrev pub lexed_by : Left → List ℕ → Option Scanned → Lexed
lexed_by s cs None = BadChar (place_of s cs)
lexed_by s cs (Some t) =
    Token (record { kind = t.kind; from = place_of s cs; to = place_of s t.rest })

-- the same, or the end where none is left
abbrev pub lexed_at : Left → List ℕ → Lexed
lexed_at s [] = ending s
lexed_at s (c ∷ cs) = lexed_by s (c ∷ cs) (token_at (c ∷ cs))

-- what stands next
abbrev pub lexed : Left → Lexed
lexed s = lexed_at s (past_gap s)

-- behind this token
abbrev pub after_by : Left → Option Scanned → Left
after_by s None = s
after_by s (Some t) = record s { ahead = t.rest }

-- what is left behind the token that stands next, or all where none does
abbrev pub after : Left → Left
after s = after_by s (token_at (past_gap s))

-- the characters of this token
abbrev pub spelling_by : Option Scanned → List ℕ
spelling_by None = []
spelling_by (Some t) = t.spelling

-- the characters of the token that stands next
abbrev pub spelling : Left → List ℕ
spelling s = spelling_by (token_at (past_gap s))

-- What stands next is a token.
abbrev pub IsToken : Lexed → Type 0
IsToken (Token t) = Unit {0}
IsToken _ = ⊥
