-- Places in the files that a text is joined of.
use Rattle.lt_definitions.specs.Printing.{words}
use Rattle.std.specs.Prelude.{◌≡◌, ℕ, ◌-◌, ◌<◌, ◌≤◌, List, Some, length, map, take, drop, slice_get}
use Rattle.lt_texts.specs.Files.{File, InFile, in_file, line_number, column_number}
use Rattle.lt_walks.specs.Outputs.{line_about}
use Rattle.lt_commands.specs.declared.refusal.Placed.{Placed}
use Rattle.lt_plain.specs.Showing.{shown_words}
use Rattle.lt_run.specs.declared.files.Joined.{Joined}
use Rattle.lt_run.specs.declared.places.Front.{Front}
use Rattle.lt_run.specs.declared.places.Position.{Position}
use Rattle.lt_run.specs.Joining.{IsJoinedOf}

-- these are the names of the files
abbrev pub AreNames : List (List ℕ) → List File → Type 0
AreNames names held = names ≡ map (λ f. f.name) held

-- The text is joined of some files with these names, one at least.
pub record IsJoinedOfSome (names : List (List ℕ)) (j : Joined) : Type 0 where
  pub held : List File
  pub named : AreNames names held
  pub joined : IsJoinedOf held j
  pub some : 0 < length held

-- The front of a file's bytes that stands before a place, by where it stands in the joined text.
pub record IsFound (names : List (List ℕ)) (j : Joined) (place : ℕ) (front : Front) : Type 0 where
  pub file : front.file < length names
  pub from : front.from ≤ front.to
  pub to : front.to ≤ length j.text.items
  pub found : (held : List File) → AreNames names held → IsJoinedOf held j → (p : InFile)
      → in_file held place ≡ Some p → (slice_get names front.file ≡ Some p.name)
      × (take (front.to - front.from) (drop front.from j.text.items) ≡ p.before)

-- The line and the column are those behind these bytes of a file.
pub record IsBehind (before : List ℕ) (p : Position) : Type 0 where
  pub line : p.line ≡ line_number before
  pub column : p.column ≡ column_number before

-- the line on a refusal with its place
unfoldable pub placed_line : List File → Placed → List ℕ
placed_line held p = line_about (in_file held p.at) (words (shown_words p.refusal))
