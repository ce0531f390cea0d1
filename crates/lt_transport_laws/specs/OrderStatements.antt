-- What the laws say on the order in which a session's quotients are declared.
-- Source: this project's own.
use Rattle.std.specs.Prelude.{◌≡◌, ℕ, List, [], ◌∷◌, Bool, true, false, None, Ok}
use Rattle.lt_definitions.specs.Types.{TypeTree, bool, fun}
use Rattle.lt_definitions.specs.Typing.{Signature, type_fault, typed}
use Rattle.lt_definitions.specs.Items.{Item, empty, new_type, context_of}
use Rattle.lt_definitions.specs.Theory.{IsPlainTheory}
use Rattle.lt_transport_definitions.specs.Sessions.{Typedef, Session, new_session, signature_of}
use Rattle.lt_transport_definitions.specs.Quotients.{Quot, IsQuotBetween}
use Rattle.lt_transport_definitions.specs.QuotientBlocks.{is_in_order}
use Rattle.lt_texts.specs.Commands.{Command, abs_eq_command, rep_eq_command}
use Rattle.lt_transport_definitions.specs.Blocks.{ComesOf, Gives}
use Rattle.lt_transport_definitions.specs.Rows.{BlockOutcome}
use Rattle.lt_transport_laws.specs.Statements.{is_transport}
use Rattle.lt_transport_laws.specs.QuotientStatements.{AreInOrder}

-- What a session declares and states is what a valid plain theory does.
abbrev pub IsOfTheory : Session → Type 0
IsOfTheory s = (items : List Item) × IsPlainTheory items × (s.context ≡ context_of empty items)

-- A typedef over a type that was declared before it.
pub record IsTypedefInOrder (sig : Signature) (t : Typedef) : Type 0 where
  pub raw : TypeTree
  pub predicate : typed sig [] t.predicate ≡ Ok (fun raw bool)
  pub sound : type_fault sig raw ≡ None
  pub order : is_in_order sig raw (new_type t.name t.params) ≡ true

-- Each of these is.
abbrev pub AreTypedefsInOrder : Signature → List Typedef → Type 0
AreTypedefsInOrder sig [] = Unit {0}
AreTypedefsInOrder sig (t ∷ ts) = IsTypedefInOrder sig t × AreTypedefsInOrder sig ts

-- A session of a valid theory whose typedefs and quotients are in order.
pub record IsOrderedSession (s : Session) : Type 0 where
  pub theory : IsOfTheory s
  pub typedefs : AreTypedefsInOrder (signature_of s) s.typedefs
  pub quotients : AreInOrder (signature_of s) s.quotients

-- The session before the first command is one.
abbrev pub NewSessionsAreOrdered : Type 0
NewSessionsAreOrdered = (limit : ℕ) → IsOrderedSession (new_session limit)

-- What a command gives leaves it so.
abbrev pub SessionsStayOrdered : Type 0
SessionsStayOrdered = (s : Session) (c : Command) (items : List Item) (later : Session)
    → IsOrderedSession s → Gives s c items later → IsOrderedSession later

-- In such a session there is a quotient between any two types without a fault.
abbrev pub SessionsHaveQuotients : Type 0
SessionsHaveQuotients = (s : Session) (abs raw : TypeTree) → IsOrderedSession s
    → type_fault (signature_of s) abs ≡ None → type_fault (signature_of s) raw ≡ None
    → (q : Quot) × IsQuotBetween s.registry s.quotients abs raw q

-- whether a command asks for an image, or for the quotient with which a constant was lifted before
abbrev pub asks_more : Command → Bool
asks_more (abs_eq_command c) = true
asks_more (rep_eq_command c) = true
asks_more c = is_transport c

-- Some outcome comes of each other command in such a session.
abbrev pub OutcomesExist : Type 0
OutcomesExist = (s : Session) (c : Command) → IsOrderedSession s → asks_more c ≡ false
    → (o : BlockOutcome) × ComesOf s c o
