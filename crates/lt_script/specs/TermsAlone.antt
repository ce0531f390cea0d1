-- A term alone, and what stands behind it.
use Rattle.std.specs.Prelude.{◌≡◌, List, [], ◌∷◌, Bool, true, false}
use Rattle.lt_texts.specs.declared.lexical.Lexed.{Lexed}
use Rattle.lt_texts.specs.declared.lexical.Lexed.TheVariants.{Token}
use Rattle.lt_texts.specs.declared.lexical.TokenKind.TheVariants.{OpenSquare}
use Rattle.lt_texts.specs.Texts.{Left, lexed}
use Rattle.lt_texts.specs.Writing.{TermText, term_of_text}
use Rattle.lt_texts.specs.WrongPlaces.{IsTermAt}
use Rattle.lt_commands.specs.Making.{Made, nothing, put_all}
use Rattle.lt_commands.specs.Notes.{term_notes}
use Rattle.lt_script.specs.declared.symbol.Symbol.{Symbol}
use Rattle.lt_script.specs.declared.symbol.Symbol.TheVariants.{Brackets}

-- From one place to another stands a term, and what is made is what is noted of it.
abbrev pub MakesTerm : Left → Left → Made → Type 0
MakesTerm s s' m =
    (x : TermText) × IsTermAt s (term_of_text x) s' × (m ≡ put_all (term_notes x []) nothing)

-- nothing but type arguments is expected
abbrev pub is_brackets : List Symbol → Bool
is_brackets (Brackets ∷ []) = true
is_brackets s = false

-- an opening square bracket
abbrev pub IsOpening : Lexed → Type 0
IsOpening (Token t) = t.kind ≡ OpenSquare
IsOpening l = ⊥

-- whether one stands next
abbrev pub StandsOpen : Left → Bool → Type 0
StandsOpen s true = IsOpening (lexed s)
StandsOpen s false = IsOpening (lexed s) → ⊥

-- Whether a term ends where this is expected: nothing but type arguments may follow, and none do.
abbrev pub IsOver : Bool → List Symbol → Left → Type 0
IsOver true stack s = (is_brackets stack ≡ true) × (IsOpening (lexed s) → ⊥)
IsOver false stack s = is_brackets stack ≡ true → IsOpening (lexed s)
