-- What the tokens of a text are to a grammar, and which of them stand from one place of a text to
-- another.
-- Source: this project's own.
use Rattle.std.specs.Prelude.{◌≡◌, ℕ, List, [], ◌∷◌, Option, drop}
use Rattle.lt_texts.specs.declared.lexical.Token.{Token as Placed}
use Rattle.lt_texts.specs.declared.lexical.TokenKind.{TokenKind}
use Rattle.lt_texts.specs.declared.lexical.TokenKind.TheVariants.{Name, TypeVariable, Number}
use Rattle.lt_texts.specs.declared.lexical.Lexed.TheVariants.{Token, End}
use Rattle.lt_definitions.specs.Types.{Chars}
use Rattle.lt_definitions.specs.Characters.{number_of}
use Rattle.lt_texts.specs.Texts.{Left, left_of, lexed, after, spelling}

-- A lexeme: a name, a type variable by its name, a number by its value where that is at most
-- 2^32 - 1, or a sign.
pub data Lexeme : Type 0 where
  a_name : Chars → Lexeme
  a_variable : Chars → Lexeme
  a_number : Option ℕ → Lexeme
  a_sign : TokenKind → Lexeme

-- what a token with these characters is; a quote stands before a type variable's name
abbrev pub lexeme : TokenKind → List ℕ → Lexeme
lexeme Name cs = a_name cs
lexeme TypeVariable cs = a_variable (drop 1 cs)
lexeme Number cs = a_number (number_of cs)
lexeme kind cs = a_sign kind

-- a token stands next, and is this lexeme
pub record IsNextLexeme (s : Left) (w : Lexeme) : Type 0 where
  pub placed : Placed
  pub found : lexed s ≡ Token placed
  pub same : w ≡ lexeme placed.kind (spelling s)

-- from one place of a text to another stand these lexemes
abbrev pub Spans : Left → List Lexeme → Left → Type 0
Spans s [] s' = s' ≡ s
Spans s (w ∷ ws) s' = IsNextLexeme s w × Spans (after s) ws s'

-- the text is these lexemes from its begin to its end
abbrev pub HasLexemes : List ℕ → List Lexeme → Type 0
HasLexemes text ws = (s : Left) × Spans (left_of text) ws s × (lexed s ≡ End)
