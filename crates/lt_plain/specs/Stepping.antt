-- One step of the walk through a plain text.
use Rattle.std.specs.Prelude.{◌≡◌, ◌⊎◌, ℕ, List, [], ◌∷◌, ◌++◌, codes, Some, None, Bool, true, false, Result, Ok, Err}
use Rattle.lt_definitions.specs.Items.{Context}
use Rattle.lt_definitions.specs.Theory as refusals
use Rattle.lt_definitions.specs.Theory.{refusal}
use Rattle.lt_hol.specs.declared.item.Item.{Item}
use Rattle.lt_hol.specs.Items.{item_of}
use Rattle.lt_texts.specs.Texts.{Left}
use Rattle.lt_texts.specs.Commands.{Command, item_command}
use Rattle.lt_texts.specs.Forms.{plain_text}
use Rattle.lt_texts.specs.WrongPlaces.{Wrong, AtEnd, HeaderFailsAt}
use Rattle.lt_texts.specs.CommandPlaces.{NextPlaced}
use Rattle.lt_commands.specs.declared.command.Command.{Command as CommandData}
use Rattle.lt_commands.specs.Views.{command_of}
use Rattle.lt_script.specs.Scripts.{Begun}
use Rattle.lt_script.specs.declared.spanned.Spanned.{Spanned}
use Rattle.lt_conditions.specs.declared.item_fault.ItemFault.{ItemFault}
use Rattle.lt_conditions.specs.Refusing.{Refuses}
use Rattle.lt_extend.specs.Theories.{Holding, context_behind}
use Rattle.lt_walks.specs.Walks.{End, EndsThere, place_of}
use Rattle.lt_walks.specs.PlainWalks.{plain_items, line_of}
use Rattle.lt_commands.specs.declared.refusal.Refusal.TheVariants.{Memory}
use Rattle.lt_commands.specs.declared.refusal.Placed.{Placed}
use Rattle.lt_plain.specs.Telling.{as_placed, Tells, TellsEnd}

-- The header of plain texts was read.
pub record IsPlain (s : Begun) : Type 0 where
  pub word : s.word ≡ codes "plain"
  pub number : s.number ≡ 1

-- The item is valid over those before it, and now it is the last one; or it isn't added, for its
-- first refusal.
abbrev pub AddsOrNot : Holding → Item → Holding → Result (Unit {0}) ItemFault → Type 0
AddsOrNot old item new (Ok _) = (refusal (context_behind old.items) (item_of item) ≡ None)
    × (new.items ≡ old.items ++ item ∷ [])
AddsOrNot old item new (Err e) =
    Refuses (refusal (context_behind old.items) (item_of item)) e × (new.items ≡ old.items)

-- whether a command adds an item alone
abbrev pub is_item : Command → Bool
is_item (item_command i) = true
is_item _ = false

-- The command adds this item; or it is another one, which stays as it is.
abbrev pub IsItemOr : CommandData → Result Item CommandData → Type 0
IsItemOr c (Ok item) = command_of c ≡ item_command (item_of item)
IsItemOr c (Err d) = (d ≡ c) × (is_item (command_of c) ≡ false)

-- What is told is what is wrong with the header with which the text is to begin; want of memory is
-- free.
abbrev pub RefusesHeader : Left → Placed → Type 0
RefusesHeader s p =
    (p.refusal ≡ Memory) ⊎ ((e : Wrong) × HeaderFailsAt plain_text s e × (p ≡ as_placed e))

-- What is told is how the walk ends here; want of memory is free.
abbrev pub StopsAt : Context → Left → Placed → Type 0
StopsAt ctx s p = (p.refusal ≡ Memory)
    ⊎ ((end : End refusals.Refusal) × EndsThere plain_items ctx s end × TellsEnd end p)

-- What is told is the item's first refusal; want of memory is free.
abbrev pub RefusesItem : Context → Item → ℕ → List ℕ → Placed → Type 0
RefusesItem ctx item from lines p = (p.refusal ≡ Memory)
    ⊎ ((r : refusals.Refusal) × (refusal ctx (item_of item) ≡ Some r) × Tells r p.refusal
    × (p.at ≡ place_of from lines (line_of r)))

-- The next item of the text was added, and this is left behind it.
pub record IsNext (s : Left) (old : List Item) (s' : Left) (new : List Item) : Type 0 where
  pub item : Item
  pub from : ℕ
  pub lines : List ℕ
  pub to : ℕ
  pub next : NextPlaced plain_text s (item_command (item_of item)) from lines to s'
  pub accepted : refusal (context_behind old) (item_of item) ≡ None
  pub items : new ≡ old ++ item ∷ []

-- What was read is an item and was added, or isn't, for its first refusal, which is told with its
-- place; want of memory is free.
abbrev pub AddsSpanned : Spanned → List Item → List Item → Result (Unit {0}) Placed → Type 0
AddsSpanned d old new (Ok _) = (item : Item) × (command_of d.command ≡ item_command (item_of item))
    × (refusal (context_behind old) (item_of item) ≡ None) × (new ≡ old ++ item ∷ [])
AddsSpanned d old new (Err p) = (item : Item) × (command_of d.command ≡ item_command (item_of item))
    × RefusesItem (context_behind old) item d.from d.lines p × (new ≡ old)

-- One more item of the text was added, or the text is at its end, or the walk ends here otherwise.
abbrev pub Steps : Left → List Item → Left → List Item → Result Bool Placed → Type 0
Steps s old s' new (Ok true) = IsNext s old s' new
Steps s old s' new (Ok false) = AtEnd plain_text s × (new ≡ old)
Steps s old s' new (Err p) = StopsAt (context_behind old) s p × (new ≡ old)
