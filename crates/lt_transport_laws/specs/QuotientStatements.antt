-- What the law says that there is a quotient between two types.
-- Source: this project's own.
use Rattle.std.specs.Prelude.{◌≡◌, List, [], ◌∷◌, true, None}
use Rattle.lt_definitions.specs.Types.{TypeTree}
use Rattle.lt_definitions.specs.Typing.{Signature, type_fault}
use Rattle.lt_transport_definitions.specs.Relations.{Registry}
use Rattle.lt_transport_definitions.specs.Forms.{constructor_name}
use Rattle.lt_transport_definitions.specs.Sessions.{QuotientEntry}
use Rattle.lt_transport_definitions.specs.Quotients.{Quot, IsQuotBetween}
use Rattle.lt_transport_definitions.specs.QuotientBlocks.{is_in_order}

-- A registered quotient is one of its abstract type's constructor, and its raw type is declared
-- before that, without a fault.
pub record IsInOrder (sig : Signature) (e : QuotientEntry) : Type 0 where
  pub named : constructor_name e.abs_type ≡ e.con
  pub sound : type_fault sig e.raw_type ≡ None
  pub order : is_in_order sig e.raw_type e.abs_type ≡ true

-- Each of these is.
abbrev pub AreInOrder : Signature → List QuotientEntry → Type 0
AreInOrder sig [] = Unit {0}
AreInOrder sig (e ∷ es) = IsInOrder sig e × AreInOrder sig es

-- Between two types without a fault there is a quotient, whatever relators are registered.
abbrev pub QuotientsExist : Type 0
QuotientsExist = (G : Registry) (es : List QuotientEntry) (sig : Signature) (abs raw : TypeTree)
    → AreInOrder sig es → type_fault sig abs ≡ None → type_fault sig raw ≡ None
    → (q : Quot) × IsQuotBetween G es abs raw q
