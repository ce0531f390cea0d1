-- The walk of `run`: the commands of a theory text, over sessions.
-- Source: this project's own.
use Rattle.std.specs.Prelude.{ℕ, List, Option, Some, None, Err}
use Rattle.std.specs.List.{flat_map}
use Rattle.lt_definitions.specs.Items.{Item}
use Rattle.lt_definitions.specs.Theory.{in_line, bad_line}
use Rattle.lt_texts.specs.Forms.{theory_text}
use Rattle.lt_walks.specs.Walks.{Meanings, End, Walks}
use Rattle.lt_transport_definitions.specs.Sessions.{Session, new_session}
use Rattle.lt_transport_definitions.specs.Commands.{CommandRefusal, as_item}
use Rattle.lt_transport_definitions.specs.Blocks.{ComesOf, Gives}

-- the number of the lemma's line in which a refusal stands
abbrev pub line_of : CommandRefusal → Option ℕ
line_of (as_item (in_line n f)) = Some n
line_of (as_item (bad_line n r)) = Some n
line_of _ = None

-- how many bytes a joined theory text may have
abbrev pub theory_limit : ℕ
theory_limit = 16777216

-- The commands of a theory text, over sessions in which a search may make so many visits.
abbrev pub theory_commands : (limit : ℕ) → Meanings Session CommandRefusal
theory_commands limit = record {
  form = theory_text;
  most = theory_limit;
  start = new_session limit;
  Adds = Gives;
  Refuses = λ s c r. ComesOf s c (Err r);
  line = line_of;
}

-- The walk of `run` through a text gives these blocks of items, and ends so.
abbrev pub RunsText : (limit : ℕ) → List ℕ → List (List Item) → End CommandRefusal → Type 0
RunsText limit text blocks end = Walks (theory_commands limit) text blocks end

abbrev pub items_of_blocks : List (List Item) → List Item
items_of_blocks blocks = flat_map (λ items. items) blocks
