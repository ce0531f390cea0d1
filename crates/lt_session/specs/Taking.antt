-- What a session answers to a command.
use Rattle.std.specs.Prelude.{◌≡◌, ◌⊎◌, List, ◌++◌, length, Bool, true, false, None, Result, Ok, Err}
use Rattle.lt_texts.specs.Commands.{Command, item_command, law_command, corr_command}
use Rattle.lt_hol.specs.declared.item.Item.{Item}
use Rattle.lt_extend.specs.Theories.{items_of}
use Rattle.lt_commands.specs.declared.refusal.Refusal.{Refusal}
use Rattle.lt_commands.specs.declared.refusal.Refusal.TheVariants.{Duplicate, UnknownLaw, LawDiffers, MissingLaw, RelatorShape, PropertyShape, DuplicateProperty, DomainShape, DuplicateDomain, NotBuilt, Memory}
use Rattle.lt_commands.specs.declared.refusal.Refused.{Refused}
use Rattle.lt_laws.specs.declared.law_fault.LawFault.{LawFault}
use Rattle.lt_laws.specs.declared.law_fault.LawFault.TheVariants as faults
use Rattle.lt_relations.specs.declared.rel_fault.RelFault.{RelFault}
use Rattle.lt_relations.specs.declared.rel_fault.RelFault.TheVariants as relations
use Rattle.lt_plain.specs.Telling.{Tells}
use Rattle.lt_plain.specs.Showing.{shown_words}
use Rattle.lt_transport_definitions.specs.Sessions.{Session}
use Rattle.lt_transport_definitions.specs.Commands.{CommandRefusal, as_item, in_words}
use Rattle.lt_transport_definitions.specs.Blocks.{ComesOf, Gives}
use Rattle.lt_transport_definitions.specs.TheoryWalks.{line_of}
use Rattle.lt_session.specs.declared.session.Block.{Block}
use Rattle.lt_session.specs.Sessions.{Holding, session_of}

-- Which commands are built: those of items, `law` and `corr`.
abbrev pub is_built : Command → Bool
is_built (item_command i) = true
is_built (law_command w l) = true
is_built (corr_command c) = true
is_built _ = false

-- why a law isn't registered, as a refusal
abbrev pub of_law : LawFault → Refusal
of_law (faults.UnknownLaw w) = UnknownLaw w
of_law (faults.LawDiffers w) = LawDiffers w
of_law (faults.MissingLaw w) = MissingLaw w
of_law faults.Memory = Memory

-- why nothing of relations is registered, as a refusal
abbrev pub of_relation : RelFault → Refusal
of_relation (relations.RelatorShape part) = RelatorShape part
of_relation (relations.Duplicate c) = Duplicate c
of_relation (relations.PropertyShape part) = PropertyShape part
of_relation (relations.DuplicateProperty p c) = DuplicateProperty p c
of_relation relations.DomainShape = DomainShape
of_relation (relations.DuplicateDomain c) = DuplicateDomain c
of_relation relations.Memory = Memory

-- The answered refusal is this one, with its values.
abbrev pub TellsRefusal : CommandRefusal → Refusal → Type 0
TellsRefusal (as_item r) x = Tells r x
TellsRefusal (in_words ws) x = shown_words x ≡ ws

-- The command isn't built.
pub record IsNotBuilt (c : Command) (x : Refused) : Type 0 where
  pub command : is_built c ≡ false
  pub refusal : x.refusal ≡ NotBuilt
  pub line : x.line ≡ None

-- The command is refused in the session, for this refusal and in that line of its lemma.
pub record IsRefused (s : Session) (c : Command) (x : Refused) : Type 0 where
  pub command : is_built c ≡ true
  pub first : CommandRefusal
  pub comes : ComesOf s c (Err first)
  pub tells : TellsRefusal first x.refusal
  pub line : x.line ≡ line_of first

-- Why a command isn't taken. Want of memory is free.
abbrev pub Refuses : Session → Command → Refused → Type 0
Refuses s c x = (x.refusal ≡ Memory) ⊎ (IsNotBuilt c x ⊎ IsRefused s c x)

-- The block's items were added, and the session is the one behind the command's block.
pub record IsTaken (old : Holding) (c : Command) (new : Holding) (block : Block) : Type 0 where
  pub command : is_built c ≡ true
  pub from : block.from ≡ length old.items
  pub added : List Item
  pub items : new.items ≡ old.items ++ added
  pub gives : Gives (session_of old) c (items_of added) (session_of new)
  pub limit : new.limit ≡ old.limit

-- The command was taken, or it wasn't, and then all is as before.
abbrev pub Takes : Holding → Command → Holding → Result Block Refused → Type 0
Takes old c new (Ok block) = IsTaken old c new block
Takes old c new (Err x) = Refuses (session_of old) c x × (new ≡ old)
