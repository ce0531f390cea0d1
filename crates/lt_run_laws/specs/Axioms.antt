-- The axioms of a report, by the commands of its text.
use Rattle.std.specs.Prelude.{◌≡◌, ℕ, List, [], ◌∷◌, length, filter}
use Rattle.std.specs.List.{flat_map}
use Rattle.lt_definitions.specs.Items.{Item}
use Rattle.lt_definitions.specs.Printing.{is_axiom}
use Rattle.lt_texts.specs.Texts.{Left, left_of}
use Rattle.lt_texts.specs.Commands.{Command}
use Rattle.lt_texts.specs.Forms.{theory_text, header_text}
use Rattle.lt_texts.specs.WrongPlaces.{Stands}
use Rattle.lt_texts.specs.CommandPlaces.{NextPlaced}
use Rattle.lt_transport_definitions.specs.TheoryWalks.{items_of_blocks}
use Rattle.lt_transport_laws.specs.Statements.{axioms_given}

-- The next commands of a theory text from a place on are these.
abbrev pub AreNext : Left → List Command → Type 0
AreNext at [] = Unit {0}
AreNext at (c ∷ commands) = (from : ℕ) × (lines : List ℕ) × (to : ℕ) × (behind : Left)
    × NextPlaced theory_text at c from lines to behind × AreNext behind commands

-- The first commands of a theory text, behind its header, are these.
abbrev pub AreFirst : List ℕ → List Command → Type 0
AreFirst text [] = Unit {0}
AreFirst text (c ∷ commands) = (at : Left) × Stands (left_of text) (header_text theory_text) at
    × AreNext at (c ∷ commands)

-- The blocks are those of as many first commands of the text, and their axioms, in order, are those
-- that these commands state.
pub record HasAxiomsOfCommands (text : List ℕ) (blocks : List (List Item)) : Type 0 where
  pub commands : List Command
  pub first : AreFirst text commands
  pub one_each : length commands ≡ length blocks
  pub axioms : filter is_axiom (items_of_blocks blocks) ≡ flat_map axioms_given commands
