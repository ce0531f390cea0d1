-- Sequents of boolean terms, and the signatures over which each rule keeps them so.
-- Source: this project's own.
use Rattle.std.specs.Prelude.{◌≡◌, List, [], Some, None}
use Rattle.std.specs.List.{All}
use Rattle.lt_definitions.specs.Types.{Chars, TypeTree, bool, found}
use Rattle.lt_definitions.specs.Terms.{TermTree}
use Rattle.lt_definitions.specs.Typing.{Signature, built_in, type_fault, HasType}
use Rattle.lt_definitions.specs.Rules.{Sequent}
use Rattle.lt_definitions.specs.Derivations.{IsPartOf}

-- The built-in types and constants are declared, and no constant's declared type has a fault.
pub record IsSoundSignature (sig : Signature) : Type 0 where
  pub built : IsPartOf built_in sig
  pub consts : (c : Chars) (ty : TypeTree) → found c sig.consts ≡ Some ty → type_fault sig ty ≡ None

-- a boolean term without loose bound names
abbrev pub IsBoolean : Signature → TermTree → Type 0
IsBoolean sig t = HasType sig [] t bool

-- Each hypothesis is boolean, and so is the conclusion.
pub record IsBooleanSequent (sig : Signature) (s : Sequent) : Type 0 where
  pub hyps : All (IsBoolean sig) s.hyps
  pub concl : IsBoolean sig s.concl

-- each named statement is boolean
abbrev pub AreBooleanStatements : Signature → List (Chars × TermTree) → Type 0
AreBooleanStatements sig named =
    (l : Chars) (p : TermTree) → found l named ≡ Some p → IsBoolean sig p
