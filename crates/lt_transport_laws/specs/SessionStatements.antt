-- What the laws on sessions and walks say.
use Rattle.std.specs.Prelude.{◌≡◌, ℕ, List, [], ◌∷◌, Some, Ok, Err, IsSome, map, codes}
use Rattle.std.specs.List.{flat_map}
use Rattle.lt_definitions.specs.Types.{Chars, found}
use Rattle.lt_definitions.specs.Terms.{TermTree, HasNoLooseNames}
use Rattle.lt_definitions.specs.Typing.{declared_arity}
use Rattle.lt_definitions.specs.Items.{Item, Context}
use Rattle.lt_definitions.specs.Theory.{AreValid, IsPlainTheory}
use Rattle.lt_transport_definitions.specs.Relations.{Relator, Parametrised, DomainRule}
use Rattle.lt_transport_definitions.specs.Sessions.{LiftedEntry, Session, signature_of}
use Rattle.lt_definitions.specs.Printing.{report, summary_lines, count_line}
use Rattle.lt_texts.specs.Texts.{Left}
use Rattle.lt_texts.specs.Files.{File}
use Rattle.lt_texts.specs.Commands.{Command}
use Rattle.lt_walks.specs.Walks.{End, refused, place_of, WalksOn}
use Rattle.lt_transport_definitions.specs.Commands.{CommandRefusal, Block, session_behind}
use Rattle.lt_transport_definitions.specs.Rows.{BlockOutcome}
use Rattle.lt_transport_definitions.specs.AlphaItems.{AreAlphaEqualItems, RefusesAlike}
use Rattle.lt_transport_definitions.specs.Blocks.{ComesOf, Gives}
use Rattle.lt_transport_definitions.specs.TheoryWalks.{line_of, theory_commands, RunsText, items_of_blocks}
use Rattle.lt_transport_definitions.specs.Reports.{run_line}
use Rattle.lt_transport_laws.specs.Statements.{IsRegistry}

-- Named statements without loose bound names.
abbrev pub AreScopedStatements : List (Chars × TermTree) → Type 0
AreScopedStatements [] = Unit {0}
AreScopedStatements (p ∷ ps) = HasNoLooseNames p.1 × AreScopedStatements ps

-- Domain equations whose domains have none.
abbrev pub AreScopedDomains : List DomainRule → Type 0
AreScopedDomains [] = Unit {0}
AreScopedDomains (d ∷ ds) = HasNoLooseNames d.domain × AreScopedDomains ds

-- A session in which each statement and each domain has its binders. Where its items are a valid
-- plain theory, each statement is typed, so it has; and a domain is part of a statement.
pub record IsScopedSession (s : Session) : Type 0 where
  pub registry : IsRegistry s.registry
  pub statements : AreScopedStatements s.context.statements
  pub domains : AreScopedDomains s.registry.domain_rules

-- At most one outcome comes of each command, transports included.
abbrev pub EachOutcomeIsOne : Type 0
EachOutcomeIsOne =
    (s : Session) (c : Command) (o p : BlockOutcome) → IsScopedSession s → ComesOf s c o
    → ComesOf s c p → o ≡ p

-- A command leads to at most one session.
abbrev pub SessionsAreOne : Type 0
SessionsAreOne =
    (s : Session) (c : Command) (xs ys : List Item) (later other : Session) → IsScopedSession s
    → Gives s c xs later → Gives s c ys other → later ≡ other

-- The items that a walk gives are valid one after another, over those before the walk.
abbrev pub WalksArePlain : Type 0
WalksArePlain =
    (limit : ℕ) (s : Session) (at : Left) (blocks : List (List Item)) (end : End CommandRefusal)
    → WalksOn (theory_commands limit) s at blocks end → AreValid s.context (items_of_blocks blocks)

-- The items of a run are a valid plain theory.
abbrev pub RunsArePlain : Type 0
RunsArePlain =
    (limit : ℕ) (text : List ℕ) (blocks : List (List Item)) (end : End CommandRefusal)
    → RunsText limit text blocks end → IsPlainTheory (items_of_blocks blocks)

-- Items that are one up to alpha equality print alike, with their lines and without.
abbrev pub AlikeItemsPrintAlike : Type 0
AlikeItemsPrintAlike =
    (items others : List Item) → AreAlphaEqualItems items others
    → (report items ≡ report others) × (summary_lines items ≡ summary_lines others)
    × (count_line items ≡ count_line others)

-- A refusal that a call may answer is written as the first one that applies, whatever the places of
-- the command and of a lemma's lines.
abbrev pub AlikeRefusalsPrintAlike : Type 0
AlikeRefusalsPrintAlike =
    (s : Session) (c : Command) (r : CommandRefusal) → RefusesAlike s c r
    → (first : CommandRefusal) × ComesOf s c (Err first)
    × ((files : List File) (from : ℕ) (lines : List ℕ)
    → run_line files (refused first (place_of from lines (line_of first)))
    ≡ run_line files (refused r (place_of from lines (line_of r))))

-- A block leaves the registry one that meets what the laws ask, where bool is declared without
-- arguments.
abbrev pub RegistriesStaySound : Type 0
RegistriesStaySound =
    (s : Session) (c : Command) (b : Block)
    → declared_arity (signature_of s) (codes "bool") ≡ Some 0 → IsRegistry s.registry
    → ComesOf s c (Ok b) → IsRegistry (session_behind s b).registry

-- The label has a statement.
abbrev pub IsStated : Context → Chars → Type 0
IsStated ctx l = IsSome (found l ctx.statements)

-- Each of these has.
abbrev pub AreStated : Context → List Chars → Type 0
AreStated ctx [] = Unit {0}
AreStated ctx (l ∷ ls) = IsStated ctx l × AreStated ctx ls

-- the labels that a relator keeps
abbrev pub relator_labels : Relator → List Chars
relator_labels r = r.eq ∷ r.quot ∷ r.comp ∷ []

-- those that a parametrised form keeps
abbrev pub form_labels : Parametrised → List Chars
form_labels p = p.eq ∷ p.defined ∷ []

-- those that a lifted constant keeps
abbrev pub lifted_labels : LiftedEntry → List Chars
lifted_labels e = e.defined ∷ e.by ∷ e.transfer ∷ []

-- A session is in step where each label that it keeps has a statement.
pub record IsInStep (s : Session) : Type 0 where
  pub laws : AreStated s.context (map (λ p. p.1) s.laws)
  pub relators : AreStated s.context (flat_map relator_labels s.registry.relators)
  pub forms : AreStated s.context (flat_map form_labels s.registry.forms)
  pub properties : AreStated s.context (map (λ r. r.label) s.registry.property_rules)
  pub domains : AreStated s.context (map (λ r. r.label) s.registry.domain_rules)
  pub rules : AreStated s.context s.rules
  pub quotients : AreStated s.context (map (λ e. e.label) s.quotients)
  pub lifted : AreStated s.context (flat_map lifted_labels s.lifted)
  pub transports : AreStated s.context (map (λ e. e.label) s.transports)

-- A session in step gives one in step.
abbrev pub SessionsStayInStep : Type 0
SessionsStayInStep =
    (s : Session) (c : Command) (b : Block) → IsInStep s → ComesOf s c (Ok b)
    → IsInStep (session_behind s b)
