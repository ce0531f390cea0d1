-- What contracts see of a text that is read command by command.
use Rattle.std.specs.Prelude.{ℕ, List, []}
use Rattle.lt_definitions.specs.Types.{Chars}
use Rattle.lt_texts.specs.Forms.{Form}
use Rattle.lt_texts.specs.Texts.{Left, left_of}

-- What is left of the text, and the header that was read last. No name is the empty word, so before
-- a header was read none stands.
pub record Begun : Type 0 where
  pub left : Left
  pub word : Chars
  pub number : ℕ

-- all of a text, of which no header was read
abbrev pub begun_of : List ℕ → Begun
begun_of text = record { left = left_of text; word = []; number = 0 }

-- the form with this header and these commands
abbrev pub headed : Chars → ℕ → List Chars → Form
headed word number commands = record { word = word; number = number; commands = commands }

-- the form of what is left of a text, where these commands may stand
abbrev pub form_in : Begun → List Chars → Form
form_in s commands = headed s.word s.number commands
