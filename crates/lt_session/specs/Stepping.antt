-- One step of the walk through a theory text.
use Rattle.std.specs.Prelude.{◌≡◌, ◌⊎◌, ℕ, List, codes, Option, Some, None, Result, Ok, Err}
use Rattle.lt_texts.specs.Texts.{Left}
use Rattle.lt_texts.specs.Commands.{Command}
use Rattle.lt_texts.specs.Forms.{theory_text}
use Rattle.lt_texts.specs.WrongPlaces.{Wrong, AtEnd, HeaderFailsAt}
use Rattle.lt_texts.specs.CommandPlaces.{NextPlaced}
use Rattle.lt_commands.specs.Views.{command_of}
use Rattle.lt_commands.specs.declared.refusal.Refusal.{Refusal}
use Rattle.lt_commands.specs.declared.refusal.Refusal.TheVariants.{NotBuilt, Memory}
use Rattle.lt_commands.specs.declared.refusal.Placed.{Placed}
use Rattle.lt_script.specs.Scripts.{Begun}
use Rattle.lt_script.specs.declared.spanned.Spanned.{Spanned}
use Rattle.lt_walks.specs.Walks.{End, accepted, too_long, wrong_header, unread, refused, EndsThere, place_of}
use Rattle.lt_plain.specs.Telling.{as_placed}
use Rattle.lt_transport_definitions.specs.Sessions.{Session}
use Rattle.lt_session.specs.declared.session.Block.{Block}
use Rattle.lt_session.specs.Sessions.{Holding, session_of}
use Rattle.lt_session.specs.Taking.{TellsRefusal, IsTaken}
use Rattle.lt_session.specs.Walks.{RunRefusal, by_table, not_built, RefusesBuilt, line_in, built_commands}

-- The header of theory texts was read.
pub record IsTheory (s : Begun) : Type 0 where
  pub word : s.word ≡ codes "theory"
  pub number : s.number ≡ 1

-- The answered refusal is this one, with its values.
abbrev pub TellsRun : RunRefusal → Refusal → Type 0
TellsRun (by_table r) x = TellsRefusal r x
TellsRun not_built x = x ≡ NotBuilt

-- The answer tells how a walk ends before the text does, and the place.
abbrev pub TellsEnd : End RunRefusal → Placed → Type 0
TellsEnd accepted p = ⊥
TellsEnd too_long p = ⊥
TellsEnd (wrong_header e) p = p ≡ as_placed e
TellsEnd (unread e) p = p ≡ as_placed e
TellsEnd (refused r place) p = (p.at ≡ place) × TellsRun r p.refusal

-- What is told is what is wrong with the header with which the text is to begin; want of memory is
-- free.
abbrev pub RefusesHeader : Left → Placed → Type 0
RefusesHeader s p =
    (p.refusal ≡ Memory) ⊎ ((e : Wrong) × HeaderFailsAt theory_text s e × (p ≡ as_placed e))

-- What is told is how the walk ends here; want of memory is free.
abbrev pub StopsAt : Session → Left → Placed → Type 0
StopsAt s at p = (p.refusal ≡ Memory)
    ⊎ ((end : End RunRefusal) × EndsThere (built_commands s.limit) s at end × TellsEnd end p)

-- What is told is why the command isn't taken; want of memory is free.
abbrev pub RefusesCommand : Session → Command → ℕ → List ℕ → Placed → Type 0
RefusesCommand s c from lines p = (p.refusal ≡ Memory)
    ⊎ ((r : RunRefusal) × RefusesBuilt s c r × TellsRun r p.refusal
    × (p.at ≡ place_of from lines (line_in r)))

-- The next command of the text was taken, and this is left behind it.
pub record IsNext (s : Left) (old : Holding) (s' : Left) (new : Holding) (block : Block) : Type 0 where
  pub command : Command
  pub from : ℕ
  pub lines : List ℕ
  pub to : ℕ
  pub next : NextPlaced theory_text s command from lines to s'
  pub taken : IsTaken old command new block

-- What was read was taken, or wasn't, for the reason that is told with its place.
abbrev pub TakesSpanned : Spanned → Holding → Holding → Result Block Placed → Type 0
TakesSpanned d old new (Ok block) = IsTaken old (command_of d.command) new block
TakesSpanned d old new (Err p) =
    RefusesCommand (session_of old) (command_of d.command) d.from d.lines p × (new ≡ old)

-- One more command of the text was taken, or the text is at its end, or the walk ends here
-- otherwise.
abbrev pub Steps : Left → Holding → Left → Holding → Result (Option Block) Placed → Type 0
Steps s old s' new (Ok (Some block)) = IsNext s old s' new block
Steps s old s' new (Ok None) = AtEnd theory_text s × (new ≡ old)
Steps s old s' new (Err p) = StopsAt (session_of old) s p × (new ≡ old)
