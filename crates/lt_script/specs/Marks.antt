-- The places at which the lines of a lemma begin, on the way of the machine through a text.
use Rattle.std.specs.Prelude.{◌≡◌, ℕ, List, [], ◌∷◌, ◌++◌, Option, Some, None, Bool, true, false}
use Rattle.lt_texts.specs.declared.lexical.Lexed.{Lexed}
use Rattle.lt_texts.specs.declared.lexical.Lexed.TheVariants.{Token}
use Rattle.lt_texts.specs.Texts.{Left, lexed, after}
use Rattle.lt_texts.specs.Lexemes.{Lexeme, a_name, Spans}
use Rattle.lt_commands.specs.declared.note.Note.{Note}
use Rattle.lt_commands.specs.declared.note.Note.TheVariants.{BeginLine}
use Rattle.lt_script.specs.declared.symbol.Symbol.{Symbol}
use Rattle.lt_script.specs.declared.symbol.Symbol.TheVariants.{Lines}
use Rattle.lt_script.specs.Machine.{Move, state, step_on, run}

-- whether it is noted that a line begins
abbrev pub has_begin : List Note → Bool
has_begin [] = false
has_begin (BeginLine w ∷ b) = true
has_begin (n ∷ b) = has_begin b

-- whether a line begins with what a lexeme makes
abbrev pub begins_by : Option Move → Bool
begins_by None = false
begins_by (Some m) = has_begin m.made

-- whether a line begins with this lexeme, if it is taken where this symbol is expected
abbrev pub begins_line : Symbol → Lexeme → Bool
begins_line Lines (a_name c) = true
begins_line x w = false

-- the place, if a line begins there
abbrev pub marked : Bool → ℕ → List ℕ
marked true at = at ∷ []
marked false at = []

-- the place of the token that stands next
abbrev pub token_place : Lexed → ℕ
token_place (Token t) = t.from
token_place l = 0

abbrev pub stack_by : Option Move → List Symbol
stack_by None = []
stack_by (Some m) = m.pushed

-- the places at which lines begin, from a stack and a place on
abbrev pub marks : List Symbol → Left → List Lexeme → List ℕ
marks st s [] = []
marks st s (w ∷ ws) =
    marked (begins_by (step_on st w)) (token_place (lexed s)) ++ marks (stack_by (step_on st w)) (after s) ws

-- from one place to another stand lexemes with which nothing more is expected, and lines begin at these places
abbrev pub ReadsLines : List Symbol → List Note → Left → List Note → List ℕ → Left → Type 0
ReadsLines st b s b' places s' = (ws : List Lexeme) × Spans s ws s' × (run st b ws ≡ Some (state [] b')) × (places ≡ marks st s ws)
