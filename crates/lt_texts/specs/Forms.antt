-- The forms of texts: which header a text has, and which commands may stand in it.
-- Source: this project's own.
use Rattle.std.specs.Prelude.{◌≡◌, ℕ, List, [], ◌∷◌, ◌++◌, Bool, true, ◌&&◌, not, map, codes}
use Rattle.std.specs.List.{flat_map}
use Rattle.lt_definitions.specs.Types.{Chars, same_name, has_name}
use Rattle.lt_definitions.specs.Items.{Item}
use Rattle.lt_texts.specs.Lexemes.{Lexeme}
use Rattle.lt_texts.specs.Reading.{IsRead}
use Rattle.lt_texts.specs.Commands.{Command, item_command}
use Rattle.lt_texts.specs.Pieces.{Piece, word_piece, number_piece, semicolon, command_text, AreWritten}

-- A form: the word and the number of its header, and the words of the commands that may stand.
pub record Form : Type 0 where
  pub word : Chars
  pub number : ℕ
  pub commands : List Chars

-- the words of items
abbrev pub item_words : List Chars
item_words =
    codes "type" ∷ codes "const" ∷ codes "axiom" ∷ codes "def" ∷ codes "typedef" ∷ codes "lemma"
    ∷ []

-- the words of all commands
abbrev pub command_words : List Chars
command_words = item_words
    ++ codes "law" ∷ codes "corr" ∷ codes "relator" ∷ codes "property" ∷ codes "domain"
    ∷ codes "rule" ∷ codes "lifting"
    ∷ codes "lifting_typedef" ∷ codes "quotient_type" ∷ codes "lift" ∷ codes "parametric"
    ∷ codes "param_rule" ∷ codes "equiv" ∷ codes "implies"
    ∷ codes "carry" ∷ codes "abs_eq" ∷ codes "rep_eq" ∷ []

-- a plain theory
abbrev pub plain_text : Form
plain_text = record { word = codes "plain"; number = 1; commands = item_words }

-- a theory text
abbrev pub theory_text : Form
theory_text = record { word = codes "theory"; number = 1; commands = command_words }

-- the same commands before a header was read: no name is the empty word, so no header stands
abbrev pub without_header : List Chars → Form
without_header commands = record { word = []; number = 0; commands = commands }

-- the word with which a text of pieces begins
abbrev pub first_word : List Piece → Chars
first_word (word_piece w ∷ ps) = w
first_word _ = []

-- whether a command with this word may stand: it is among the form's, and isn't that of its header
abbrev pub may_stand : Form → Chars → Bool
may_stand f w = has_name w f.commands && not (same_name w f.word)

-- What stands behind a text's header: the header again, which adds nothing, or a command.
pub data Sentence : Type 0 where
  header_again : Sentence
  a_command : Command → Sentence

-- the text of a form's header
abbrev pub header_text : Form → List Piece
header_text f = word_piece f.word ∷ number_piece f.number ∷ semicolon ∷ []

-- the text of a sentence
abbrev pub sentence_text : Form → Sentence → List Piece
sentence_text f header_again = header_text f
sentence_text f (a_command c) = command_text c ++ semicolon ∷ []

-- the text of sentences in a row
abbrev pub sentences_text : Form → List Sentence → List Piece
sentences_text f xs = flat_map (sentence_text f) xs

-- a sentence may stand in a text of the form
abbrev pub IsAllowed : Form → Sentence → Type 0
IsAllowed f header_again = Unit {0}
IsAllowed f (a_command c) = may_stand f (first_word (command_text c)) ≡ true

-- so may each of these
abbrev pub AreAllowed : Form → List Sentence → Type 0
AreAllowed f [] = Unit {0}
AreAllowed f (x ∷ xs) = IsAllowed f x × AreAllowed f xs

-- the commands among sentences, in order
abbrev pub commands_of : List Sentence → List Command
commands_of [] = []
commands_of (header_again ∷ xs) = commands_of xs
commands_of (a_command c ∷ xs) = c ∷ commands_of xs

-- The lexemes are a header of the form, then headers and commands that may stand, and the commands
-- are these.
abbrev pub IsText : Form → List Lexeme → List Command → Type 0
IsText f ws cs =
    (xs : List Sentence) × AreAllowed f xs × AreWritten (sentences_text f (header_again ∷ xs)) ws []
    × (cs ≡ commands_of xs)

-- The bytes are a text of the form with these commands.
abbrev pub HasCommands : Form → List ℕ → List Command → Type 0
HasCommands f text cs = (ws : List Lexeme) × IsRead text ws × IsText f ws cs

-- The bytes are a plain text with these items.
abbrev pub HasPlainItems : List ℕ → List Item → Type 0
HasPlainItems text items = HasCommands plain_text text (map item_command items)
