-- The words of a call of `check`, the files that are read for it, and what comes of it.
-- Source: this project's own.
use Rattle.std.specs.Prelude.{◌≡◌, ◌⊎◌, ℕ, ◌<◌, List, [], ◌∷◌, ◌++◌, Option, Some, None, length, codes}
use Rattle.lt_definitions.specs.Items.{Item}
use Rattle.lt_definitions.specs.Theory.{Refusal, IsPlainTheory}
use Rattle.lt_texts.specs.Files.{File, joined_text}
use Rattle.lt_texts.specs.Walks.{plain_limit}
use Rattle.lt_io.specs.Files.{Files}
use Rattle.lt_io.specs.Written.{Grew, GrewByFront}
use Rattle.lt_walks.specs.Walks.{End}
use Rattle.lt_walks.specs.PlainWalks.{Checks}
use Rattle.lt_walks.specs.Outputs.{summary_of, check_line}

-- the words are those of `check` with these files, one at least
abbrev pub AreCheckWords : List (List ℕ) → List (List ℕ) → Type 0
AreCheckWords words names = (first : List ℕ) × (others : List (List ℕ))
    × (names ≡ first ∷ others) × (words ≡ codes "check" ∷ names)

-- the file has these bytes, where the files are told
abbrev pub HoldsBytes : Option Files → File → Type 0
HoldsBytes None f = Unit {0}
HoldsBytes (Some held) f = held f.name ≡ Some f.bytes

-- These are the named files in order, with their bytes where the files are told.
abbrev pub AreNamed : Option Files → List (List ℕ) → List File → Type 0
AreNamed files [] [] = Unit {0}
AreNamed files (name ∷ names) (f ∷ fs) = (f.name ≡ name) × HoldsBytes files f
    × AreNamed files names fs
AreNamed files _ _ = ⊥

-- These files are read: all that are named, or the first of them, where the text that is joined of
-- these is too long already.
pub record AreRead (files : Option Files) (names : List (List ℕ)) (held : List File) : Type 0 where
  pub first : List (List ℕ)
  pub others : List (List ℕ)
  pub order : names ≡ first ++ others
  pub named : AreNamed files first held
  pub all : (others ≡ []) ⊎ (plain_limit < length (joined_text held))

-- The walk of `check` through the named files accepts these items, which are a valid plain theory,
-- and ends so; the sinks got its summary and its line.
unfoldable pub CheckEnds : Option Files → List (List ℕ) → List Item → End Refusal
    → (out out' err err' : Option (List ℕ)) → Type 0
CheckEnds files names items end out out' err err' = (held : List File) × AreRead files names held
    × Checks (joined_text held) items end × IsPlainTheory items
    × Grew out out' (summary_of items end) × Grew err err' (check_line held end)

-- The items are the first of those of the walk through the named files, and the first sink got a
-- front of what is written of it.
unfoldable pub CheckStops : Option Files → List (List ℕ) → List Item
    → (out out' : Option (List ℕ)) → Type 0
CheckStops files names items out out' = (held : List File) × AreRead files names held
    × (more : List Item) × (end : End Refusal) × Checks (joined_text held) (items ++ more) end
    × IsPlainTheory items × GrewByFront out out' (summary_of (items ++ more) end)

-- the line on the second sink where a file can't be read
abbrev pub read_fault_line : List ℕ → List ℕ
read_fault_line name = codes "read fault: " ++ (name ++ codes "\n")

-- the line on the second sink where the words aren't accepted
abbrev pub usage_line : List ℕ
usage_line = codes "usage: lt MODE [--summary] [--limit N] FILE..\n"
