-- Items that are valid, and laws, lead from one session to another.
use Rattle.std.specs.Prelude.{◌≡◌, List, [], ◌∷◌, ◌++◌, Option, Some, None, Ok, map}
use Rattle.std.proofs.Common.{refl, sym, subst}
use Rattle.lt_definitions.specs.Items.{Item, Context, with_item}
use Rattle.lt_definitions.specs.Theory.{Refusal, refusal, AreValid, checked, checked_after}
use Rattle.lt_transport_definitions.specs.Sessions.{Session}
use Rattle.lt_texts.specs.Commands.{Command, item_command}
use Rattle.lt_transport_definitions.specs.Commands.{this_item, Block, with_addition, session_behind}
use Rattle.lt_transport_definitions.specs.Rows.{BlockOutcome, item_test}
use Rattle.lt_transport_definitions.specs.Blocks.{ComesOf, Unless}
use Rattle.lt_transport_definitions.specs.Samples.{LeadTo, behind_items}

after : (ctx : Context) (i : Item) (items : List Item) (r : Option Refusal) → r ≡ refusal ctx i
    → (checked_after r i (checked (with_item ctx i) items)).1 ≡ None
    → ((checked (with_item ctx i) items).1 ≡ None → AreValid (with_item ctx i) items) → AreValid ctx (i ∷ items)
after ctx i items None h e rest = (sym h, rest e)
after ctx i items (Some r) h e rest = absurd (cc)

-- items of which none is refused are valid
pub valid : (ctx : Context) (items : List Item) → (checked ctx items).1 ≡ None → AreValid ctx items
valid ctx [] e = tt
valid ctx (i ∷ items) e = after ctx i items (refusal ctx i) refl e (valid (with_item ctx i) items)

-- the block of an item
abbrev item_block : Item → Block
item_block i = record { additions = this_item i ∷ []; registrations = [] }

item-leads : (s : Session) (i : Item) → refusal s.context i ≡ None → ComesOf s (item_command i) (Ok (item_block i))
item-leads s i h = subst (λ (r : Option Refusal). Unless (item_test r) (λ (o : BlockOutcome). o ≡ Ok (item_block i)) (Ok (item_block i))) (sym h) refl

-- valid items lead to the session behind them
pub items-lead : (s : Session) (items : List Item) → AreValid s.context items → LeadTo s (map item_command items) (behind_items s items)
items-lead s [] h = refl
items-lead s (i ∷ items) h = (item_block i, item-leads s i h.0, items-lead (with_addition s (this_item i)) items h.1)

-- one list of commands after another
pub lead-on : (s t u : Session) (cs ds : List Command) → LeadTo s cs t → LeadTo t ds u → LeadTo s (cs ++ ds) u
lead-on s t u [] ds h k = subst (λ (x : Session). LeadTo x ds u) (sym h) k
lead-on s t u (c ∷ cs) ds h k = (h.0, h.1, lead-on (session_behind s h.0) t u cs ds h.2 k)
