-- What contracts see of a theory, and what the calls that change it answer.
use Rattle.std.specs.Prelude.{◌≡◌, ℕ, List, [], ◌∷◌, ◌++◌, map, Option, None, Result, Ok, Err}
use Rattle.std.specs.Option.{option_map}
use Rattle.lt_definitions.specs.Types.{Chars}
use Rattle.lt_definitions.specs.Terms.{TermTree}
use Rattle.lt_definitions.specs.Items as theory
use Rattle.lt_definitions.specs.Items.{Context, empty, context_of}
use Rattle.lt_definitions.specs.Rules.{Sequent, line_at}
use Rattle.lt_definitions.specs.Theory.{Refusal, first_of, statement_test, new_name, closed_test, refusal, IsPlainTheory}
use Rattle.lt_nameless.specs.Nameless.{nameless_sequent}
use Rattle.lt_hol.specs.declared.lines.Lines.{Lines}
use Rattle.lt_hol.specs.declared.item.Item.TheVariants.{Lemma}
use Rattle.lt_hol.specs.declared.item.Item.{Item}
use Rattle.lt_hol.specs.Items.{item_of}
use Rattle.lt_store.specs.Trees.{Extends}
use Rattle.lt_kernel.specs.State.{State, sequents, Stays}
use Rattle.lt_conditions.specs.declared.item_fault.ItemFault.{ItemFault}
use Rattle.lt_conditions.specs.Refusing.{Refuses}
use Rattle.lt_extend.specs.Standing.{StandsFor}
use Rattle.lt_extend.specs.Proving.{unproved}
use Rattle.lt_extend.specs.Telling.{rules_at, rules_in}

-- The items so far, and the kernel.
pub record Holding : Type 0 where
  pub items : List Item
  pub proof : State

-- the items with their types and terms as trees
abbrev pub items_of : List Item → List theory.Item
items_of items = map item_of items

-- what the items declare and state
abbrev pub context_behind : List Item → Context
context_behind items = context_of empty (items_of items)

-- What the kernel has declared and stated is what the items declare and state.
abbrev pub IsInStep : Holding → Type 0
IsInStep h = StandsFor (context_behind h.items) h.proof

-- The items are a valid plain theory, and these are its statements.
pub record IsHeld (items : List Item) (kept : List (Chars × TermTree)) : Type 0 where
  pub valid : IsPlainTheory (items_of items)
  pub statements : kept ≡ (context_behind items).statements

-- The item is valid over those before it, and now it is the last one. Each id stands for what it
-- stood for.
pub record IsAdded (old : Holding) (item : Item) (new : Holding) : Type 0 where
  pub accepted : refusal (context_behind old.items) (item_of item) ≡ None
  pub items : new.items ≡ old.items ++ item ∷ []
  pub in_step : IsInStep new
  pub nodes : Extends old.proof.nodes new.proof.nodes

-- The lines are the same, with the same sequents.
pub record KeepsLines (old new : State) : Type 0 where
  pub steps : new.steps ≡ old.steps
  pub sequents : sequents new ≡ sequents old

-- The items are the same, each id stands for what it stood for, and the same is declared and
-- stated. The lines may be dropped.
pub record IsUnchanged (old new : Holding) : Type 0 where
  pub items : new.items ≡ old.items
  pub proof : Stays old.proof new.proof

-- The item was added, and the lines stay; or it is refused, for its first refusal.
abbrev pub Adds : Holding → Item → Holding → Result (Unit {0}) ItemFault → Type 0
Adds old item new (Ok _) = IsAdded old item new × KeepsLines old.proof new.proof
Adds old item new (Err e) =
    Refuses (refusal (context_behind old.items) (item_of item)) e × IsUnchanged old new

-- The same of a lemma: the lines are dropped.
abbrev pub AddsLemma : Holding → Item → Holding → Result (Unit {0}) ItemFault → Type 0
AddsLemma old item new (Ok _) = IsAdded old item new × (new.proof.steps ≡ [])
AddsLemma old item new (Err e) =
    Refuses (refusal (context_behind old.items) (item_of item)) e × IsUnchanged old new

-- the first refusal of a lemma whose lines are there already, the last one with this sequent
abbrev pub kept_refusal : Context → Chars → TermTree → Option Sequent → Option Refusal
kept_refusal ctx l t last = first_of (statement_test ctx t ∷ new_name ctx.statements l
    ∷ closed_test t ∷ unproved t last ∷ [])

-- The sequent of the line with a number, with some names of binders; none where there is no such
-- line.
abbrev pub IsLine : State → ℕ → Option Sequent → Type 0
IsLine s n last = option_map nameless_sequent last ≡ line_at (sequents s) n

-- The lemma was added whose lines are those of the kernel up to the one with a number, and the
-- kernel's lines are dropped; or it is refused, for the first refusal.
abbrev pub KeepsLemma : Holding → Chars → TermTree → ℕ → Holding → Result (Unit {0}) ItemFault
    → Type 0
KeepsLemma old l t n new (Ok _) = (lines : Lines) × (rules_in lines ≡ rules_at old.proof n)
    × IsAdded old (Lemma l t lines) new × (new.proof.steps ≡ [])
KeepsLemma old l t n new (Err e) = (last : Option Sequent) × IsLine old.proof n last
    × Refuses (kept_refusal (context_behind old.items) l t last) e × IsUnchanged old new
