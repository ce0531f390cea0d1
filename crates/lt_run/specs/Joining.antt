-- Files joined to one text.
use Rattle.std.specs.Prelude.{◌≡◌, ◌⊎◌, ℕ, ◌+◌, ◌<◌, ◌≤◌, List, [], ◌∷◌, ◌++◌, Option, Some, IfSome, IsSome, length, map, slice_get}
use Rattle.lt_texts.specs.Files.{File, joined_text, first_past}
use Rattle.lt_io.specs.Causes.{Rose}
use Rattle.lt_io.specs.Files.{Files}
use Rattle.lt_walks.specs.Calls.{HoldsBytes, AreNamed}
use Rattle.lt_run.specs.declared.files.Joined.{Joined}
use Rattle.lt_run.specs.declared.files.Unjoined.{Unjoined}
use Rattle.lt_run.specs.declared.files.Unjoined.TheVariants.{Fault, TooLong, Memory}

-- the library has each of these names
abbrev pub AreIn : Files → List (List ℕ) → Type 0
AreIn held [] = Unit {0}
AreIn held (name ∷ names) = IsSome (held name) × AreIn held names

-- where the files were told and have all these names, they are told behind
abbrev pub KeepsTold : Option Files → Option Files → List (List ℕ) → Type 0
KeepsTold before now names = IfSome before (λ held. AreIn held names → IsSome now)

-- the files are told, and have these names with these bytes
abbrev pub HoldsAll : Option Files → List (List ℕ) → List File → Type 0
HoldsAll files names held = (told : Files) × (files ≡ Some told) × AreNamed (Some told) names held

-- The text is joined of these files, of which each has so many bytes.
pub record IsJoinedOf (held : List File) (j : Joined) : Type 0 where
  pub text : j.text.items ≡ joined_text held
  pub lengths : j.lengths.items ≡ map (λ f. length f.bytes) held

-- These files are read: all that are named, or the first of them, where the text that is joined of
-- these has more bytes already than it may.
pub record AreReadWithin (most : ℕ) (files : Option Files) (names : List (List ℕ))
    (held : List File) : Type 0 where
  pub first : List (List ℕ)
  pub others : List (List ℕ)
  pub order : names ≡ first ++ others
  pub named : AreNamed files first held
  pub all : (others ≡ []) ⊎ (most < length (joined_text held))

-- The text is joined of the named files, and has so many bytes at most.
pub record AreJoined (most : ℕ) (files : Option Files) (names : List (List ℕ)) (j : Joined)
    : Type 0 where
  pub held : List File
  pub named : AreNamed files names held
  pub joined : IsJoinedOf held j
  pub short : length j.text.items ≤ most

-- One more file is joined, and the text has so many bytes at most.
pub record Joins (most : ℕ) (files : Option Files) (name : List ℕ) (before now : Joined)
    : Type 0 where
  pub bytes : List ℕ
  pub holds : HoldsBytes files (record { name = name; bytes = bytes })
  pub text : now.text.items ≡ before.text.items ++ (bytes ++ 10 ∷ [])
  pub lengths : now.lengths.items ≡ before.lengths.items ++ length bytes ∷ []
  pub short : length now.text.items ≤ most

-- With one more file the text is too long.
pub record Passes (most : ℕ) (files : Option Files) (name : List ℕ) (before : Joined)
    : Type 0 where
  pub bytes : List ℕ
  pub holds : HoldsBytes files (record { name = name; bytes = bytes })
  pub long : most < length before.text.items + (length bytes + 1)

-- The text is too long with the file that has this number among the named ones.
pub record IsPassed (most : ℕ) (files : Option Files) (names : List (List ℕ)) (n : ℕ)
    : Type 0 where
  pub held : List File
  pub read : AreReadWithin most files names held
  pub long : most < length (joined_text held)
  pub name : slice_get names n ≡ Some (first_past held most)

-- What kept the files from being joined: a fault of the library, a text that is too long, or want of
-- memory, which is free.
abbrev pub FailsToJoin : (most : ℕ) → Option Files → (before now : ℕ) → List (List ℕ) → Unjoined
    → Type 0
FailsToJoin most files before now names (Fault n) = (n < length names) × Rose before now
FailsToJoin most files before now names (TooLong n) =
    (n < length names) × IsPassed most files names n
FailsToJoin most files before now names Memory = Unit {0}
