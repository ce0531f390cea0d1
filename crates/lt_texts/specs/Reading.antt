-- What stands next in a text, and which lexemes stand from one place to another, by the longest gap
-- and the longest token.
-- Source: this project's own.
use Rattle.std.specs.Prelude.{◌≡◌, ◌≢◌, ℕ, List, [], ◌∷◌, length}
use Rattle.lt_texts.specs.declared.lexical.Lexed.{Lexed}
use Rattle.lt_texts.specs.declared.lexical.Lexed.TheVariants.{Token, End, BadByte, BadChar}
use Rattle.lt_texts.specs.Tokens.{Scanned}
use Rattle.lt_texts.specs.Spelling.{NoToken, IsLongest}
use Rattle.lt_texts.specs.Gaps.{IsPast}
use Rattle.lt_texts.specs.Texts.{Left, left_of, end_of, place_of}
use Rattle.lt_texts.specs.Lexemes.{Lexeme, lexeme}

-- Behind the longest gap stands a longest token.
pub record IsNextToken (s : Left) (t : Scanned) : Type 0 where
  pub found : List ℕ
  pub past : IsPast s.ahead found
  pub longest : IsLongest found t

-- What stands next: a token, the text's end, the first byte that is no UTF-8, or a character that
-- begins no token; each with its place.
abbrev pub Shows : Left → Lexed → Type 0
Shows s (Token p) = (t : Scanned) × (n : IsNextToken s t)
    × (p ≡ record { kind = t.kind; from = place_of s n.found; to = place_of s t.rest })
Shows s End = IsPast s.ahead [] × (end_of s ≡ length s.source)
Shows s (BadByte n) = IsPast s.ahead [] × (end_of s ≢ length s.source) × (n ≡ end_of s)
Shows s (BadChar n) =
    (c : ℕ) × (cs : List ℕ) × IsPast s.ahead (c ∷ cs) × NoToken (c ∷ cs) × (n ≡ place_of s (c ∷ cs))

-- From one place of a text to another stand these lexemes.
abbrev pub Reads : Left → List Lexeme → Left → Type 0
Reads s [] s' = s' ≡ s
Reads s (w ∷ ws) s' = (t : Scanned) × IsNextToken s t × (w ≡ lexeme t.kind t.spelling)
    × Reads (record s { ahead = t.rest }) ws s'

-- The text is these lexemes, and nothing in it is no token.
abbrev pub IsRead : List ℕ → List Lexeme → Type 0
IsRead text ws = (s : Left) × Reads (left_of text) ws s × Shows s End
