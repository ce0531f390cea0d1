-- Where a text of a mode stops being one: the first place where none goes on so, and what that place is called.
use Rattle.std.specs.Prelude.{◌≡◌, ℕ, List, [], ◌∷◌, ◌++◌, length, if◌then◌else◌, bytes_eq}
use Rattle.lt_texts.specs.declared.lexical.Lexed.{Lexed}
use Rattle.lt_texts.specs.declared.lexical.Lexed.TheVariants.{Token as One, End, BadByte as NoText, BadChar as NoToken}
use Rattle.lt_texts.specs.Texts.{Left, lexed, spelling}
use Rattle.lt_texts.specs.Lexemes.{Lexeme, a_name, lexeme, Spans}
use Rattle.lt_texts.specs.Forms.{Form}
use Rattle.lt_texts.specs.Commands.{Command}
use Rattle.lt_grammar.specs.RowTexts.{PartText, header, text_lexemes, texts_lexemes, MayStand, MayStandAll, commands_of}
use Rattle.lt_script.specs.declared.read_error.ReadError.{ReadError}
use Rattle.lt_script.specs.declared.read_error.ReadError.TheVariants.{BadHeader, BadCommand, Syntax, BadByte, BadChar, Memory}

-- the lexemes are a whole text of a mode, and all that may stand behind the header of one
abbrev pub IsWhole : Form → List Lexeme → Type 0
IsWhole h ws = (ps : List PartText) × MayStandAll h ps × (ws ≡ texts_lexemes h (header ∷ ps) [])

abbrev pub IsRest : Form → List Lexeme → Type 0
IsRest h ws = (ps : List PartText) × MayStandAll h ps × (ws ≡ texts_lexemes h ps [])

-- something of the language begins with these lexemes
abbrev pub IsViable : (List Lexeme → Type 0) → List Lexeme → Type 0
IsViable L ws = (more : List Lexeme) × L (ws ++ more)

-- a part begins with these lexemes, and one at least is wanting
abbrev pub IsFront : Form → List Lexeme → Type 0
IsFront h ws = (p : PartText) × MayStand h p × (w : Lexeme) × (more : List Lexeme) × (ws ++ w ∷ more ≡ text_lexemes h p [])

-- what a place is called at which a part that has begun so can't go on: BadCommand where a command begins, BadHeader in a header
abbrev pub called : Form → List Lexeme → ℕ → ReadError
called h [] at = BadCommand at
called h (a_name w ∷ ws) at = if bytes_eq w h.word then BadHeader at else Syntax at
called h _ at = Syntax at

-- What stands next is wrong behind these lexemes, and the error says so: a token with which nothing of the language goes on, by its
-- first byte, the text's end where they are nothing whole, or what is no token.
abbrev pub IsWrong : (List Lexeme → Type 0) → (ℕ → ReadError) → List Lexeme → Left → Lexed → ReadError → Type 0
IsWrong L call ws s (One t) e = (e ≡ call t.from) × (IsViable L (ws ++ lexeme t.kind (spelling s) ∷ []) → ⊥)
IsWrong L call ws s End e = (e ≡ call (length s.source)) × (L ws → ⊥)
IsWrong L call ws s (NoText n) e = e ≡ BadByte n
IsWrong L call ws s (NoToken n) e = e ≡ BadChar n

-- only headers
abbrev pub AreHeaders : List PartText → Type 0
AreHeaders [] = Unit {0}
AreHeaders (p ∷ ps) = (p ≡ header) × AreHeaders ps

-- From there on stand headers, and the front of a part, behind which what is next is wrong.
abbrev pub FailsAt : Form → Left → ReadError → Type 0
FailsAt h s e = (ps : List PartText) × AreHeaders ps × (ws : List Lexeme) × IsFront h ws × (at : Left) × Spans s (texts_lexemes h ps ws) at
    × IsWrong (IsRest h) (called h ws) (texts_lexemes h ps ws) at (lexed at) e

-- There stands a front of the header, behind which what is next is wrong.
abbrev pub HeaderFailsAt : Form → Left → ReadError → Type 0
HeaderFailsAt h s e = (ws : List Lexeme) × (w : Lexeme) × (more : List Lexeme) × (ws ++ w ∷ more ≡ text_lexemes h header []) × (at : Left) × Spans s ws at
    × IsWrong (IsWhole h) BadHeader ws at (lexed at) e

-- want of memory is free
abbrev pub Fails : Form → Left → ReadError → Type 0
Fails h s Memory = Unit {0}
Fails h s e = FailsAt h s e

abbrev pub HeaderFails : Form → Left → ReadError → Type 0
HeaderFails h s Memory = Unit {0}
HeaderFails h s e = HeaderFailsAt h s e

-- from one place to another stands a part that is no header, behind headers if there are any
abbrev pub NextText : Form → Left → PartText → Left → Type 0
NextText h s p s' = (ps : List PartText) × AreHeaders ps × MayStand h p × (p ≡ header → ⊥) × Spans s (texts_lexemes h ps (text_lexemes h p [])) s'

-- from there to the text's end stands nothing, but for headers
abbrev pub AtEnd : Form → Left → Type 0
AtEnd h s = (ps : List PartText) × (s' : Left) × AreHeaders ps × Spans s (texts_lexemes h ps []) s' × (lexed s' ≡ End)

-- the next command, behind headers if there are any
abbrev pub NextCommand : Form → Left → Command → Left → Type 0
NextCommand h s c s' = (p : PartText) × NextText h s p s' × (commands_of (p ∷ []) ≡ c ∷ [])
