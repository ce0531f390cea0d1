-- What the machine makes of a text from a stack on, and where it stops.
use Rattle.std.specs.Prelude.{◌≡◌, ℕ, List, [], ◌∷◌, ◌++◌, length, Option, Some, None, Bool, true, false}
use Rattle.lt_texts.specs.declared.lexical.Lexed.{Lexed}
use Rattle.lt_texts.specs.declared.lexical.Lexed.TheVariants.{Token as One, End, BadByte as NoText, BadChar as NoToken}
use Rattle.lt_texts.specs.declared.lexical.Token.{Token}
use Rattle.lt_texts.specs.Texts.{Left, lexed, after, spelling}
use Rattle.lt_definitions.specs.Types.{Chars}
use Rattle.lt_texts.specs.Lexemes.{Lexeme, a_name, lexeme, Spans}
use Rattle.lt_texts.specs.Forms.{Form}
use Rattle.lt_grammar.specs.declared.words.Head.{Head}
use Rattle.lt_grammar.specs.declared.words.Head.TheVariants.{Header}
use Rattle.lt_grammar.specs.Words.{head_of}
use Rattle.lt_script.specs.declared.symbol.Symbol.{Symbol}
use Rattle.lt_script.specs.declared.read_error.ReadError.{ReadError}
use Rattle.lt_script.specs.declared.read_error.ReadError.TheVariants.{BadHeader, Syntax, BadByte, BadChar, Memory}
use Rattle.lt_commands.specs.declared.note.Note.{Note}
use Rattle.lt_script.specs.declared.reading.Next.{Next}
use Rattle.lt_script.specs.declared.reading.Next.TheVariants.{End as Ends, Begins, Other, BadByte as NoByte, BadChar as NoChar}
use Rattle.lt_script.specs.Machine.{State, state, step_part, run}

-- something is expected
abbrev pub IsWaiting : List Symbol → Type 0
IsWaiting [] = ⊥
IsWaiting (x ∷ s) = Unit {0}

-- from one place to another stand lexemes with which nothing more is expected
abbrev pub Reads : List Symbol → List Note → Left → List Note → Left → Type 0
Reads st b s b' s' = (ws : List Lexeme) × Spans s ws s' × (run st b ws ≡ Some (state [] b'))

-- what stands next behind some lexemes stops what goes through them
abbrev pub StopsBy : (List Lexeme → Option State) → (ℕ → ReadError) → List Lexeme → Left → Lexed → ReadError → Type 0
StopsBy goes call ws s (One t) e = (e ≡ call t.from) × (goes (ws ++ lexeme t.kind (spelling s) ∷ []) ≡ None)
StopsBy goes call ws s End e = e ≡ call (length s.source)
StopsBy goes call ws s (NoText n) e = e ≡ BadByte n
StopsBy goes call ws s (NoToken n) e = e ≡ BadChar n

abbrev pub Stops : List Symbol → List Note → (ℕ → ReadError) → List Lexeme → Left → Lexed → ReadError → Type 0
Stops st b call ws s l e = StopsBy (run st b) call ws s l e

abbrev pub StopsAt : List Symbol → List Note → (ℕ → ReadError) → Left → ReadError → Type 0
StopsAt st b call s e = (ws : List Lexeme) × (at : Left) × (m : State) × Spans s ws at × (run st b ws ≡ Some m) × IsWaiting m.stack × Stops st b call ws at (lexed at) e

abbrev pub IsStopped : List Symbol → List Note → (ℕ → ReadError) → Left → ReadError → Type 0
IsStopped st b call s Memory = Unit {0}
IsStopped st b call s e = StopsAt st b call s e

-- what a place behind the word of a part is called
abbrev pub call_of : Head → ℕ → ReadError
call_of Header = BadHeader
call_of _ = Syntax

-- what stands next where a part may begin: what begins it, with its place, something else, or no token
abbrev pub SaysNext : Form → Left → Left → Next → Type 0
SaysNext h s s' Ends = lexed s ≡ End
SaysNext h s s' (Begins k at) = (c : Chars) × (t : Token) × (lexed s ≡ One t) × (at ≡ t.from) × (a_name c ≡ lexeme t.kind (spelling s)) × (head_of h c ≡ Some k) × (s' ≡ after s)
SaysNext h s s' (Other at) = (t : Token) × (lexed s ≡ One t) × (at ≡ t.from) × (step_part h (lexeme t.kind (spelling s)) ≡ None)
SaysNext h s s' (NoByte at) = lexed s ≡ NoText at
SaysNext h s s' (NoChar at) = lexed s ≡ NoToken at

-- what a word at a place begins
abbrev pub Heads : Form → Lexeme → ℕ → Next → Type 0
Heads h w at (Begins k n) = (n ≡ at) × (c : Chars) × (w ≡ a_name c) × (head_of h c ≡ Some k)
Heads h w at (Other n) = (n ≡ at) × (step_part h w ≡ None)
Heads h w at _ = ⊥

-- whether the header begins so
abbrev pub is_header : Head → Bool
is_header Header = true
is_header _ = false
