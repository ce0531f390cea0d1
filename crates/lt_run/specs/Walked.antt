-- What comes of the walk of `check`.
use Rattle.std.specs.Prelude.{ℕ, List, ◌++◌, Option, Result, Ok, Err}
use Rattle.lt_definitions.specs.Items.{Item}
use Rattle.lt_definitions.specs.Theory.{Refusal}
use Rattle.lt_io.specs.Written.{Grew, GrewByFront}
use Rattle.lt_walks.specs.Walks.{End, accepted}
use Rattle.lt_walks.specs.PlainWalks.{ChecksText}
use Rattle.lt_walks.specs.Outputs.{summary_of}
use Rattle.lt_plain.specs.Telling.{TellsEnd}
use Rattle.lt_session.specs.declared.running.Stop.{Stop}
use Rattle.lt_session.specs.declared.running.Stop.TheVariants.{Refused, Fault, Memory}

-- These are the first items of the walk through the text, and the sink got a front of its summary.
unfoldable pub IsCut : List ℕ → List Item → Option (List ℕ) → Option (List ℕ) → Type 0
IsCut text items before now = (more : List Item) × (end : End Refusal)
    × ChecksText text (items ++ more) end × GrewByFront before now (summary_of (items ++ more) end)

-- These are the items of the walk through the text, which ends so, and the sink got its summary.
unfoldable pub IsEnd : List ℕ → List Item → End Refusal → Option (List ℕ) → Option (List ℕ) → Type 0
IsEnd text items end before now =
    ChecksText text items end × Grew before now (summary_of items end)

-- All is accepted, or something is refused, which is told, or the walk is cut short.
abbrev pub IsWalked : List ℕ → List Item → Option (List ℕ) → Option (List ℕ) → Result (Unit {0}) Stop
    → Type 0
IsWalked text items before now (Ok _) = IsEnd text items accepted before now
IsWalked text items before now (Err (Refused p)) =
    (end : End Refusal) × IsEnd text items end before now × TellsEnd end p
IsWalked text items before now (Err Fault) = IsCut text items before now
IsWalked text items before now (Err Memory) = IsCut text items before now
