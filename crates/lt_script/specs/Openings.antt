-- The forms of texts that are read, by their header and the commands that may stand.
use Rattle.std.specs.Prelude.{List, string_bytes, bytes_eq, Bool, true, false, Option, Some, None, if◌then◌else◌}
use Rattle.std.specs.Str.{chars}
use Rattle.lt_definitions.specs.Types.{Chars}
use Rattle.lt_texts.specs.Forms.{Form, item_words, command_words}
use Rattle.lt_texts.specs.Lexemes.{Lexeme, a_name}
use Rattle.lt_grammar.specs.declared.words.Head.{Head}
use Rattle.lt_grammar.specs.declared.words.Head.TheVariants.{Header, Command}
use Rattle.lt_script.specs.declared.form.Allowed.{Allowed}
use Rattle.lt_script.specs.declared.form.Allowed.TheVariants.{Items, All}
use Rattle.lt_script.specs.declared.form.Opening.{Opening}

-- the words of the commands that may stand
abbrev pub allowed_words : Allowed → List Chars
allowed_words Items = item_words
allowed_words All = command_words

-- the word of a header
abbrev pub word_of : Opening → Chars
word_of o = chars (string_bytes o.word)

-- a form with this header
abbrev pub opened : Opening → List Chars → Form
opened o commands = record { word = word_of o; number = o.number; commands = commands }

-- the form with this header, in which these commands may stand
abbrev pub form_of : Opening → Allowed → Form
form_of o a = opened o (allowed_words a)

-- whether it is the word of a header
abbrev pub is_opening : Chars → Lexeme → Bool
is_opening w (a_name c) = bytes_eq c w
is_opening w l = false

-- whether what begins so may stand
abbrev pub stands_in : Allowed → Head → Bool
stands_in a Header = false
stands_in Items (Command w) = false
stands_in a k = true

-- what was found, where it may stand
abbrev pub kept_in : Allowed → Option Head → Option Head
kept_in a None = None
kept_in a (Some k) = if stands_in a k then Some k else None
