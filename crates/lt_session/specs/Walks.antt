-- The walk of `run`, so far as the commands are built.
use Rattle.std.specs.Prelude.{◌≡◌, ℕ, List, Option, None, true, false, Err, codes}
use Rattle.lt_definitions.specs.Types.{Chars}
use Rattle.lt_definitions.specs.Items.{Item}
use Rattle.lt_texts.specs.Commands.{Command}
use Rattle.lt_texts.specs.Forms.{theory_text}
use Rattle.lt_walks.specs.Walks.{Meanings, End, accepted, too_long, wrong_header, unread, refused}
use Rattle.lt_transport_definitions.specs.Sessions.{Session, new_session}
use Rattle.lt_transport_definitions.specs.Commands.{CommandRefusal}
use Rattle.lt_transport_definitions.specs.Blocks.{ComesOf, Gives}
use Rattle.lt_transport_definitions.specs.Reports.{printed_refusal}
use Rattle.lt_transport_definitions.specs.TheoryWalks.{line_of, theory_limit}
use Rattle.lt_session.specs.Taking.{is_built}

-- Why a command is refused: by the table of commands, or because it isn't built.
pub data RunRefusal : Type 0 where
  by_table : CommandRefusal → RunRefusal
  not_built : RunRefusal

-- a built command gives what the table says
abbrev pub GivesBuilt : Session → Command → List Item → Session → Type 0
GivesBuilt s c items later = (is_built c ≡ true) × Gives s c items later

abbrev pub RefusesBuilt : Session → Command → RunRefusal → Type 0
RefusesBuilt s c (by_table r) = (is_built c ≡ true) × ComesOf s c (Err r)
RefusesBuilt s c not_built = is_built c ≡ false

-- the number of the lemma's line in which a refusal stands
abbrev pub line_in : RunRefusal → Option ℕ
line_in (by_table r) = line_of r
line_in not_built = None

abbrev pub printed : RunRefusal → Chars
printed (by_table r) = printed_refusal r
printed not_built = codes "NotBuilt"

-- The commands that are built, over sessions in which a search may make so many visits.
abbrev pub built_commands : (limit : ℕ) → Meanings Session RunRefusal
built_commands limit = record {
  form = theory_text;
  most = theory_limit;
  start = new_session limit;
  Adds = GivesBuilt;
  Refuses = RefusesBuilt;
  line = line_in;
}

-- how a walk over the table ends, as an end of the walk of the built commands
abbrev pub built_end : End CommandRefusal → End RunRefusal
built_end accepted = accepted
built_end too_long = too_long
built_end (wrong_header e) = wrong_header e
built_end (unread e) = unread e
built_end (refused r place) = refused (by_table r) place
