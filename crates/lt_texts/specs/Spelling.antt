-- How tokens are spelt, and what "as long as can be" means.
-- Source: this project's own.
use Rattle.std.specs.Prelude.{◌≡◌, ℕ, ◌≤◌, ◌==◌, ◌&&◌, Bool, true, false, not, List, [], ◌∷◌, ◌++◌, length, codes, bytes_eq}
use Rattle.std.specs.Char.{is_ascii_digit}
use Rattle.unicode_ident.specs.Ident.{is_xid_continue}
use Rattle.lt_texts.specs.declared.lexical.TokenKind.{TokenKind}
use Rattle.lt_texts.specs.declared.lexical.TokenKind.TheVariants.{Name, TypeVariable, Number, Open, Close, OpenSquare, CloseSquare, OpenBrace, CloseBrace, Semicolon, Colon, Becomes, Dollar, Percent, Backslash}
use Rattle.lt_definitions.specs.Characters.{is_name, is_numeral}
use Rattle.lt_texts.specs.Tokens.{Scanned}

-- a quote (39) and a name
abbrev pub is_type_variable : List ℕ → Bool
is_type_variable [] = false
is_type_variable (c ∷ cs) = (c == 39) && is_name cs

-- whether a token of this kind is spelt so
abbrev pub is_spelt : TokenKind → List ℕ → Bool
is_spelt Name cs = is_name cs
is_spelt TypeVariable cs = is_type_variable cs
is_spelt Number cs = is_numeral cs
is_spelt Open cs = bytes_eq cs (codes "(")
is_spelt Close cs = bytes_eq cs (codes ")")
is_spelt OpenSquare cs = bytes_eq cs (codes "[")
is_spelt CloseSquare cs = bytes_eq cs (codes "]")
is_spelt OpenBrace cs = bytes_eq cs (codes "{")
is_spelt CloseBrace cs = bytes_eq cs (codes "}")
is_spelt Semicolon cs = bytes_eq cs (codes ";")
is_spelt Colon cs = bytes_eq cs (codes ":")
is_spelt Becomes cs = bytes_eq cs (codes ":=")
is_spelt Dollar cs = bytes_eq cs (codes "$")
is_spelt Percent cs = bytes_eq cs (codes "%")
is_spelt Backslash cs = bytes_eq cs (codes "\\")

-- whether a token of this kind goes on by this character (an equals sign is 61)
abbrev pub goes_on : TokenKind → ℕ → Bool
goes_on Name c = is_xid_continue c
goes_on TypeVariable c = is_xid_continue c
goes_on Number c = is_ascii_digit c
goes_on Colon c = c == 61
goes_on _ c = false

-- the text is at its end, or its next character doesn't go on the token
abbrev pub stops : TokenKind → List ℕ → Bool
stops kind [] = true
stops kind (c ∷ cs) = not (goes_on kind c)

-- no front of the text is a token
abbrev pub NoToken : List ℕ → Type 0
NoToken text =
    (kind : TokenKind) (word rest : List ℕ) → text ≡ word ++ rest → is_spelt kind word ≡ true → ⊥

-- it is a front of the text and a token of its kind, no longer front is a token, and it is one of
-- no other kind
pub record IsLongest (text : List ℕ) (t : Scanned) : Type 0 where
  pub front : text ≡ t.spelling ++ t.rest
  pub spelt : is_spelt t.kind t.spelling ≡ true
  pub longest : (kind : TokenKind) (word rest : List ℕ) → text ≡ word ++ rest
      → is_spelt kind word ≡ true
      → length word ≤ length t.spelling
  pub only : (kind : TokenKind) → is_spelt kind t.spelling ≡ true → kind ≡ t.kind
