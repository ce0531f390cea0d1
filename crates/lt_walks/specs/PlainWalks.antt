-- The walk through a plain text: each item is an extension of what those before it declare and
-- state, or it is refused for its first refusal.
use Rattle.std.specs.Prelude.{◌≡◌, ℕ, List, [], ◌∷◌, Option, Some, None}
use Rattle.std.specs.List.{flat_map}
use Rattle.lt_definitions.specs.Items.{Item, Context, empty, with_item}
use Rattle.lt_definitions.specs.Extensions.{IsExtension}
use Rattle.lt_definitions.specs.Theory.{Refusal, in_line, bad_line, refusal}
use Rattle.lt_texts.specs.Commands.{Command, item_command}
use Rattle.lt_texts.specs.Forms.{plain_text}
use Rattle.lt_texts.specs.Walks.{plain_limit}
use Rattle.lt_walks.specs.Walks.{Meanings, End, WalksText, Walks}

-- the number of the lemma's line in which an item's refusal stands
abbrev pub line_of : Refusal → Option ℕ
line_of (in_line n f) = Some n
line_of (bad_line n r) = Some n
line_of _ = None

-- an item adds itself, where it is an extension
abbrev pub AddsItem : Context → Command → List Item → Context → Type 0
AddsItem ctx (item_command item) items later =
    IsExtension ctx item × (items ≡ item ∷ []) × (later ≡ with_item ctx item)
AddsItem ctx _ items later = ⊥

-- it is refused for its first refusal
abbrev pub RefusesItem : Context → Command → Refusal → Type 0
RefusesItem ctx (item_command item) r = refusal ctx item ≡ Some r
RefusesItem ctx _ r = ⊥

-- The items of a plain text, over what those before them declare and state.
abbrev pub plain_items : Meanings Context Refusal
plain_items = record {
  form = plain_text;
  most = plain_limit;
  start = empty;
  Adds = AddsItem;
  Refuses = RefusesItem;
  line = line_of;
}

-- the items of blocks, in order
abbrev pub items_in : List (List Item) → List Item
items_in blocks = flat_map (λ items. items) blocks

-- The walk through a plain text, however long it is, accepts these items, and ends so.
unfoldable pub ChecksText : List ℕ → List Item → End Refusal → Type 0
ChecksText text items end = (blocks : List (List Item)) × WalksText plain_items text blocks end
    × (items ≡ items_in blocks)

-- The walk of `check` through a text accepts these items, and ends so.
unfoldable pub Checks : List ℕ → List Item → End Refusal → Type 0
Checks text items end =
    (blocks : List (List Item)) × Walks plain_items text blocks end × (items ≡ items_in blocks)
