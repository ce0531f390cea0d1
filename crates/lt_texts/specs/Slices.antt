-- Tokens as slices of a text, for contracts of what reads one.
-- Source: this project's own.
use Rattle.std.specs.Prelude.{◌≡◌, ℕ, ◌<◌, ◌≤◌, true, List, ◌++◌, length, slice_range, chars, IsUtf8}
use Rattle.lt_texts.specs.declared.lexical.TokenKind.{TokenKind}
use Rattle.lt_texts.specs.declared.lexical.Token.{Token}
use Rattle.lt_texts.specs.declared.lexical.Lexed.{Lexed}
use Rattle.lt_texts.specs.declared.lexical.Lexed.TheVariants.{Token as one, End, BadByte, BadChar}
use Rattle.lt_texts.specs.Spelling.{is_spelt}
use Rattle.lt_texts.specs.Texts.{Left, here, place_of, lexed, spelling, after}

-- the bytes of a token
abbrev pub bytes_of : List ℕ → Token → List ℕ
bytes_of source t = slice_range source t.from t.to

-- they stand in the text, and are characters
pub record IsSlice (source : List ℕ) (t : Token) : Type 0 where
  pub order : t.from ≤ t.to
  pub within : t.to ≤ length source
  pub utf8 : IsUtf8 (bytes_of source t)

-- the token that was read on the way from one state to the next: it stands in order, and its bytes
-- are its spelling
pub record IsRead (s s' : Left) (t : Token) : Type 0 where
  pub source : s'.source ≡ s.source
  pub behind : here s ≤ t.from
  pub some : t.from < t.to
  pub here : here s' ≡ t.to
  pub slice : IsSlice s'.source t
  pub text : chars (bytes_of s'.source t) ≡ spelling s
  pub spelt : is_spelt t.kind (spelling s) ≡ true

-- where there is a token
abbrev pub OnToken : Lexed → (Token → Type 0) → Type 0
OnToken (one t) P = P t
OnToken End P = Unit {0}
OnToken (BadByte n) P = Unit {0}
OnToken (BadChar n) P = Unit {0}

-- where there is none
abbrev pub OnNone : Lexed → Type 0 → Type 0
OnNone (one t) P = Unit {0}
OnNone End P = P
OnNone (BadByte n) P = P
OnNone (BadChar n) P = P

-- what stands next is this word, and the rest is behind it
pub record IsNext (s : Left) (kind : TokenKind) (word rest : List ℕ) : Type 0 where
  pub token : lexed s
      ≡ one (record { kind = kind; from = place_of s (word ++ rest); to = place_of s rest })
  pub spelling : spelling s ≡ word
  pub after : after s ≡ record s { ahead = rest }
