-- What comes of files that were joined, or weren't, and what is told of it.
use Rattle.std.specs.Prelude.{◌≡◌, ◌⊎◌, ℕ, ◌<◌, List, [], length, Option, Result, Ok, Err}
use Rattle.lt_definitions.specs.Items.{Item}
use Rattle.lt_definitions.specs.Theory.{Refusal}
use Rattle.lt_texts.specs.Files.{File}
use Rattle.lt_io.specs.Written.{Grew}
use Rattle.lt_walks.specs.Walks.{End}
use Rattle.lt_walks.specs.Outputs.{check_line}
use Rattle.lt_session.specs.declared.running.Stop.{Stop}
use Rattle.lt_session.specs.declared.running.Stop.TheVariants.{Refused, Fault, Memory}
use Rattle.lt_run.specs.declared.files.Joined.{Joined}
use Rattle.lt_run.specs.declared.files.Unjoined.{Unjoined}
use Rattle.lt_run.specs.declared.files.Unjoined.TheVariants.{Fault as NoFile, TooLong, Memory as OutOfMemory}
use Rattle.lt_run.specs.Joining.{IsJoinedOf}
use Rattle.lt_run.specs.Places.{AreNames, placed_line}
use Rattle.lt_run.specs.Walked.{IsEnd}

-- The walk of `check` through the joined text accepts these items and ends so; the sinks got its
-- summary and its line.
pub record IsTold (names : List (List ℕ)) (j : Joined) (items : List Item) (end : End Refusal)
    (out out' err err' : Option (List ℕ)) : Type 0 where
  pub walked : IsEnd j.text.items items end out out'
  pub line : (held : List File) → AreNames names held → IsJoinedOf held j
      → Grew err err' (check_line held end)

-- The number is that of one of the names, where there is one.
abbrev pub IsAmong : List (List ℕ) → Unjoined → Type 0
IsAmong names (NoFile n) = n < length names
IsAmong names (TooLong n) = n < length names
IsAmong names OutOfMemory = Unit {0}

-- What the status says of how a walk through a joined text went, and what is told of it: nothing of
-- one that accepted all, the line of a refusal, and nothing that is promised where it was cut short.
abbrev pub TellsWalk : List (List ℕ) → Joined → Result (Unit {0}) Stop → (status : ℕ)
    → (err err' : Option (List ℕ)) → Type 0
TellsWalk names j (Ok _) status err err' = (status ≡ 0) × Grew err err' []
TellsWalk names j (Err (Refused p)) status err err' =
    ((status ≡ 1) ⊎ (status ≡ 4) ⊎ (status ≡ 5))
    × (status ≡ 1 → (held : List File) → AreNames names held → IsJoinedOf held j
    → Grew err err' (placed_line held p))
TellsWalk names j (Err Fault) status err err' = status ≡ 4
TellsWalk names j (Err Memory) status err err' = status ≡ 5
