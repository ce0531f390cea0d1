-- What contracts see of a session.
use Rattle.std.specs.Prelude.{ℕ, List, [], fold}
use Rattle.lt_definitions.specs.Types.{Chars}
use Rattle.lt_definitions.specs.Items as theory
use Rattle.lt_hol.specs.declared.item.Item.{Item}
use Rattle.lt_extend.specs.Theories.{items_of, context_behind}
use Rattle.lt_transport_definitions.specs.Relations.{Registry, built_in_registry}
use Rattle.lt_transport_definitions.specs.Sessions.{Session, Typedef}
use Rattle.lt_transport_definitions.specs.Commands.{with_typedef_of}

-- The items so far, the registered laws with their labels, what is registered of relations, and how
-- many visits a search may make.
pub record Holding : Type 0 where
  pub items : List Item
  pub laws : List (Chars × Chars)
  pub registry : Registry
  pub limit : ℕ

-- nothing is declared, stated or registered
abbrev pub new_holding : ℕ → Holding
new_holding limit =
    record { items = []; laws = []; registry = built_in_registry; limit = limit }

-- the typedefs among items
abbrev pub typedefs_of : List theory.Item → List Typedef
typedefs_of items = fold (λ ts i. with_typedef_of i ts) [] items

-- The session that it is. No rule, no quotient, no lifted constant and no transport can be
-- registered yet.
abbrev pub session_of : Holding → Session
session_of h = record {
  context = context_behind h.items;
  typedefs = typedefs_of (items_of h.items);
  laws = h.laws;
  registry = h.registry;
  rules = [];
  quotients = [];
  lifted = [];
  transports = [];
  limit = h.limit;
}
