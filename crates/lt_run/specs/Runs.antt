-- What comes of a call of `run`.
use Rattle.std.specs.Prelude.{◌≡◌, ◌⊎◌, ℕ, List, [], ◌++◌, Bool, Option}
use Rattle.lt_definitions.specs.Items.{Item}
use Rattle.lt_definitions.specs.Theory.{IsPlainTheory}
use Rattle.lt_texts.specs.Files.{File, joined_text}
use Rattle.lt_io.specs.Files.{Files}
use Rattle.lt_io.specs.Written.{Grew, GrewByFront}
use Rattle.lt_walks.specs.Walks.{End, accepted, Walks}
use Rattle.lt_walks.specs.Outputs.{end_line}
use Rattle.lt_transport_definitions.specs.TheoryWalks.{theory_limit, items_of_blocks}
use Rattle.lt_transport_definitions.specs.Reports.{written_of}
use Rattle.lt_session.specs.Walks.{RunRefusal, printed, built_commands}
use Rattle.lt_session.specs.Running.{written_so_far, IsEnd}
use Rattle.lt_run.specs.declared.files.Joined.{Joined}
use Rattle.lt_run.specs.Joining.{AreReadWithin, IsJoinedOf}
use Rattle.lt_run.specs.Places.{AreNames}

-- the line on the second sink
abbrev pub run_line : List File → End RunRefusal → List ℕ
run_line held end = end_line printed theory_limit held end

-- The walk of `run` through the named files adds these items, which are a valid plain theory, and
-- ends so; the sinks got its report or its summary, and its line.
unfoldable pub RunEnds : Option Files → List (List ℕ) → (limit : ℕ) (summary : Bool) → List Item
    → End RunRefusal → (out out' err err' : Option (List ℕ)) → Type 0
RunEnds files names limit summary items end out out' err err' = (held : List File)
    × AreReadWithin theory_limit files names held
    × (blocks : List (List Item)) × Walks (built_commands limit) (joined_text held) blocks end
    × (items ≡ items_of_blocks blocks) × IsPlainTheory items
    × Grew out out' (written_of summary items end) × Grew err err' (run_line held end)

-- The items are those of the first blocks of the walk through the named files. The first sink got a
-- front of what is written of the walk: no more than what is written of these items, unless they are
-- all, and accepted.
unfoldable pub RunStops : Option Files → List (List ℕ) → (limit : ℕ) (summary : Bool) → List Item
    → (out out' : Option (List ℕ)) → Type 0
RunStops files names limit summary items out out' = (held : List File)
    × AreReadWithin theory_limit files names held
    × (blocks more : List (List Item)) × (end : End RunRefusal)
    × Walks (built_commands limit) (joined_text held) (blocks ++ more) end
    × (items ≡ items_of_blocks blocks) × IsPlainTheory items
    × GrewByFront out out' (written_of summary (items_of_blocks (blocks ++ more)) end)
    × (GrewByFront out out' (written_so_far summary items)
    ⊎ ((more ≡ []) × (end ≡ accepted)))

-- The walk through the joined text adds these items and ends so; the sinks got its report or its
-- summary, and its line.
pub record IsRunTold (limit : ℕ) (summary : Bool) (names : List (List ℕ)) (j : Joined)
    (items : List Item) (end : End RunRefusal) (out out' err err' : Option (List ℕ)) : Type 0 where
  pub walked : IsEnd limit summary j.text.items items end out out'
  pub line : (held : List File) → AreNames names held → IsJoinedOf held j
      → Grew err err' (run_line held end)
