-- The token at the front of some characters, found by cases on them. Spelling says the same in the
-- subject's words, and that the two agree is a law.
-- Source: Unicode Standard Annex 31, for names; the other tokens are this project's own.
use Rattle.std.specs.Prelude.{ℕ, ◌==◌, Bool, List, [], ◌∷◌, ◌++◌, Option, Some, None, if◌then◌else◌}
use Rattle.std.specs.Char.{is_ascii_digit}
use Rattle.unicode_ident.specs.Ident.{is_xid_continue}
use Rattle.lt_texts.specs.declared.lexical.TokenKind.{TokenKind}
use Rattle.lt_texts.specs.declared.lexical.TokenKind.TheVariants.{Name, TypeVariable, Number, Open, Close, OpenSquare, CloseSquare, OpenBrace, CloseBrace, Semicolon, Colon, Becomes, Dollar, Percent, Backslash}
use Rattle.lt_definitions.specs.Characters.{starts_name, run_of, behind_run}

-- a token: its kind, its characters, and the characters behind it
pub record Scanned : Type 0 where
  pub kind : TokenKind
  pub spelling : List ℕ
  pub rest : List ℕ

-- a token that has begun so and goes on by the characters that pass
abbrev pub run_at : TokenKind → List ℕ → (ℕ → Bool) → List ℕ → Scanned
run_at kind begun p cs =
    record { kind = kind; spelling = begun ++ run_of p cs; rest = behind_run p cs }

-- the type variable behind a quote (39)
abbrev pub variable_at : List ℕ → Option Scanned
variable_at [] = None
variable_at (c ∷ cs) =
    if starts_name c then Some (run_at TypeVariable (39 ∷ c ∷ []) is_xid_continue cs) else None

-- the sign that a colon (58) begins: an equals sign (61) may stand behind it
abbrev pub colon_at : List ℕ → Scanned
colon_at [] = record { kind = Colon; spelling = 58 ∷ []; rest = [] }
colon_at (c ∷ cs) = if c == 61 then record { kind = Becomes; spelling = 58 ∷ 61 ∷ []; rest = cs }
    else record { kind = Colon; spelling = 58 ∷ []; rest = c ∷ cs }

-- the sign that is this one character: ( ) [ ] { } ; $ % \
abbrev pub sign_of : ℕ → Option TokenKind
sign_of c =
    if c == 40 then Some Open else (if c == 41 then Some Close else (if c == 91 then Some OpenSquare
    else (if c == 93 then Some CloseSquare else (if c == 123 then Some OpenBrace
    else (if c == 125 then Some CloseBrace
    else (if c == 59 then Some Semicolon else (if c == 36 then Some Dollar
    else (if c == 37 then Some Percent
    else (if c == 92 then Some Backslash else None)))))))))

-- the sign of this kind, if it is one
abbrev pub sign_at : Option TokenKind → ℕ → List ℕ → Option Scanned
sign_at None c cs = None
sign_at (Some kind) c cs = Some (record { kind = kind; spelling = c ∷ []; rest = cs })

-- the token that begins with this character: a quote is 39, a colon 58
abbrev pub token_from : ℕ → List ℕ → Option Scanned
token_from c cs =
    if starts_name c then Some (run_at Name (c ∷ []) is_xid_continue cs)
    else (if is_ascii_digit c then Some (run_at Number (c ∷ []) is_ascii_digit cs)
    else (if c == 39 then variable_at cs
    else (if c == 58 then Some (colon_at cs)
    else sign_at (sign_of c) c cs)))

-- the token at the front
abbrev pub token_at : List ℕ → Option Scanned
token_at [] = None
token_at (c ∷ cs) = token_from c cs
