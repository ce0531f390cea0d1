-- What is written of the walk through a theory text, and what comes of the walk.
use Rattle.std.specs.Prelude.{◌≡◌, ◌≢◌, ◌⊎◌, ℕ, ◌≤◌, List, [], ◌++◌, Bool, true, false, Option, Result, Ok, Err, IsErrOf, codes, encode_utf8_all}
use Rattle.std.specs.List.{flat_map}
use Rattle.lt_definitions.specs.Types.{Chars}
use Rattle.lt_definitions.specs.Items.{Item}
use Rattle.lt_definitions.specs.Printing.{summary_line, printed_item, count_line}
use Rattle.lt_io.specs.Causes.{Rose}
use Rattle.lt_io.specs.Written.{Grew, GrewByFront}
use Rattle.lt_walks.specs.Walks.{End, accepted, WalksText}
use Rattle.lt_commands.specs.declared.refusal.Refusal.TheVariants.{Memory as NoMemory}
use Rattle.lt_commands.specs.declared.refusal.Placed.{Placed}
use Rattle.lt_transport_definitions.specs.TheoryWalks.{items_of_blocks}
use Rattle.lt_transport_definitions.specs.Reports.{written_of}
use Rattle.lt_session.specs.declared.running.Stop.{Stop}
use Rattle.lt_session.specs.declared.running.Stop.TheVariants.{Refused, Fault, Memory}
use Rattle.lt_session.specs.Walks.{RunRefusal, built_commands}
use Rattle.lt_session.specs.Stepping.{TellsEnd}

-- an item as it is written: its summary line, or its command
abbrev pub written_item : (summary : Bool) → Item → Chars
written_item true item = summary_line item
written_item false item = printed_item item

-- what is written before the items
abbrev pub written_first : (summary : Bool) → Chars
written_first true = []
written_first false = codes "plain 1;\n"

-- the items' bytes
abbrev pub written_items : (summary : Bool) → List Item → List ℕ
written_items summary items = encode_utf8_all (flat_map (written_item summary) items)

-- what is written once these items were accepted
abbrev pub written_so_far : (summary : Bool) → List Item → List ℕ
written_so_far summary items = encode_utf8_all (written_first summary) ++ written_items summary items

-- what is written behind the items, where all were accepted
abbrev pub written_last : (summary : Bool) → List Item → Chars
written_last true items = count_line items
written_last false items = []

-- the sink's count of faults doesn't fall, and a failed write cuts a step short only where it rose
pub record CutByCause {T : Type 0} (before now : ℕ) (result : Result T Stop) : Type 0 where
  pub later : before ≤ now
  pub fault : IsErrOf result Fault → Rose before now

-- a step that writes refuses nothing
abbrev pub IsNoRefusal : Result (Unit {0}) Stop → Type 0
IsNoRefusal (Err (Refused p)) = ⊥
IsNoRefusal _ = Unit {0}

-- a refusal that isn't want of memory stops a walk as it is
abbrev pub IsStop : Placed → Stop → Type 0
IsStop p (Refused q) = (q ≡ p) × (p.refusal ≢ NoMemory)
IsStop p Fault = ⊥
IsStop p Memory = p.refusal ≡ NoMemory

-- The walk through the text adds these items and ends so, and the sink got what is written of it.
unfoldable pub IsEnd : (limit : ℕ) (summary : Bool) → List ℕ → List Item → End RunRefusal
    → Option (List ℕ) → Option (List ℕ) → Type 0
IsEnd limit summary text items end before now = (blocks : List (List Item))
    × WalksText (built_commands limit) text blocks end × (items ≡ items_of_blocks blocks)
    × Grew before now (written_of summary items end)

-- The items are those of the first blocks of the walk through the text, and the sink got a front of
-- what is written of it: no more than what is written of these items, unless they are all, and
-- accepted.
unfoldable pub IsCut : (limit : ℕ) (summary : Bool) → List ℕ → List Item → Option (List ℕ)
    → Option (List ℕ) → Type 0
IsCut limit summary text items before now = (blocks more : List (List Item))
    × (end : End RunRefusal) × WalksText (built_commands limit) text (blocks ++ more) end
    × (items ≡ items_of_blocks blocks)
    × GrewByFront before now (written_of summary (items_of_blocks (blocks ++ more)) end)
    × (GrewByFront before now (written_so_far summary items)
    ⊎ ((more ≡ []) × (end ≡ accepted)))

-- All is accepted, or something is refused, which is told, or the walk is cut short.
abbrev pub IsRun : (limit : ℕ) (summary : Bool) → List ℕ → List Item → Option (List ℕ)
    → Option (List ℕ) → Result (Unit {0}) Stop → Type 0
IsRun limit summary text items before now (Ok _) =
    IsEnd limit summary text items accepted before now
IsRun limit summary text items before now (Err (Refused p)) =
    (end : End RunRefusal) × IsEnd limit summary text items end before now × TellsEnd end p
IsRun limit summary text items before now (Err Fault) =
    IsCut limit summary text items before now
IsRun limit summary text items before now (Err Memory) =
    IsCut limit summary text items before now
