-- What the laws say of the sessions to which commands lead.
-- Source: this project's own.
use Rattle.std.specs.Prelude.{◌≡◌, ℕ, List, [], true, Some}
use Rattle.lt_definitions.specs.Types.{Chars, found, bool}
use Rattle.lt_definitions.specs.Terms.{TermTree}
use Rattle.lt_definitions.specs.Typing.{HasType}
use Rattle.lt_definitions.specs.Items.{Item}
use Rattle.lt_transport_definitions.specs.Sessions.{Session, new_session, signature_of}
use Rattle.lt_texts.specs.Texts.{Left}
use Rattle.lt_texts.specs.Commands.{Command}
use Rattle.lt_walks.specs.Walks.{End, WalksOn}
use Rattle.lt_transport_definitions.specs.Commands.{CommandRefusal}
use Rattle.lt_transport_definitions.specs.Blocks.{Gives}
use Rattle.lt_transport_definitions.specs.TheoryWalks.{theory_commands, RunsText, items_of_blocks}
use Rattle.lt_transport_definitions.specs.Reports.{written_of}
use Rattle.lt_transport_laws.specs.Statements.{IsRegistry}
use Rattle.lt_transport_laws.specs.SessionStatements.{AreScopedDomains, IsScopedSession, IsInStep}
use Rattle.lt_transport_laws.specs.OrderStatements.{IsOrderedSession}

-- A session as commands leave it: of a valid theory and in order, with a registry that meets what
-- the laws ask, domains that have their binders, and a statement for each label.
pub record IsKeptSession (s : Session) : Type 0 where
  pub ordered : IsOrderedSession s
  pub registry : IsRegistry s.registry
  pub domains : AreScopedDomains s.registry.domain_rules
  pub step : IsInStep s

-- The session before the first command is one.
abbrev pub NewSessionsAreKept : Type 0
NewSessionsAreKept = (limit : ℕ) → IsKeptSession (new_session limit)

-- What a command gives leaves it so.
abbrev pub SessionsAreKept : Type 0
SessionsAreKept = (s : Session) (c : Command) (items : List Item) (later : Session)
    → IsKeptSession s → Gives s c items later → IsKeptSession later

-- It meets the premise under which at most one outcome comes of each command.
abbrev pub KeptSessionsAreScoped : Type 0
KeptSessionsAreScoped = (s : Session) → IsKeptSession s → IsScopedSession s

-- Each of its statements is a boolean term.
abbrev pub KeptStatementsAreBoolean : Type 0
KeptStatementsAreBoolean = (s : Session) (l : Chars) (p : TermTree) → IsKeptSession s
    → found l s.context.statements ≡ Some p → HasType (signature_of s) [] p bool

-- A walk from such a session has at most one end.
abbrev pub WalksAreOne : Type 0
WalksAreOne =
    (limit : ℕ) (s : Session) (at : Left) (blocks others : List (List Item))
    (end other : End CommandRefusal)
    → IsKeptSession s → WalksOn (theory_commands limit) s at blocks end
    → WalksOn (theory_commands limit) s at others other → end ≡ other

-- A run over a text has at most one end.
abbrev pub RunsHaveOneEnd : Type 0
RunsHaveOneEnd =
    (limit : ℕ) (text : List ℕ) (blocks others : List (List Item)) (end other : End CommandRefusal)
    → RunsText limit text blocks end → RunsText limit text others other → end ≡ other

-- A run over a text has at most one summary: two runs differ in the lines of lemmas alone.
abbrev pub RunsHaveOneSummary : Type 0
RunsHaveOneSummary =
    (limit : ℕ) (text : List ℕ) (blocks others : List (List Item)) (end other : End CommandRefusal)
    → RunsText limit text blocks end → RunsText limit text others other
    → written_of true (items_of_blocks blocks) end ≡ written_of true (items_of_blocks others) other
