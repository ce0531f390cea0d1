-- Types by their numbers in a table.
use Rattle.std.specs.Prelude.{◌≡◌, ℕ, List, [], ◌∷◌, reverse, slice_get, Some, Result, Ok, Err}
use Rattle.lt_definitions.specs.Types.{TypeTree, bool, fun}
use Rattle.lt_definitions.specs.Typing.{Fault}
use Rattle.lt_hol.specs.declared.type_fault.TypeFault.{TypeFault}
use Rattle.lt_hol.specs.Faults.{Finds, fault_of}

-- the type of a number
abbrev pub Has : List TypeTree → ℕ → TypeTree → Type 0
Has ts n ty = slice_get ts n ≡ Some ty

-- the number of the type where there is one, else the fault
abbrev pub GivesType : List TypeTree → Result TypeTree Fault → Result ℕ TypeFault → Type 0
GivesType ts outcome (Ok n) = (ty : TypeTree) × Has ts n ty × (outcome ≡ Ok ty)
GivesType ts outcome (Err e) = Finds (fault_of outcome) e

-- these are the numbers of these types
abbrev pub AreTypes : List TypeTree → List ℕ → List TypeTree → Type 0
AreTypes ts [] [] = Unit {0}
AreTypes ts [] (ty ∷ tys) = ⊥
AreTypes ts (n ∷ ns) [] = ⊥
AreTypes ts (n ∷ ns) (ty ∷ tys) = Has ts n ty × AreTypes ts ns tys

-- the one type that tells the types of binders, the innermost first
abbrev pub context_type : List TypeTree → TypeTree
context_type [] = bool
context_type (ty ∷ tys) = fun ty (context_type tys)

-- A binder of the type is entered: its number is the innermost one, and the number that tells the types of the binders is the last one.
pub record Enters (old new : List TypeTree) (before after : List ℕ) (context : ℕ) (ty : TypeTree) (inner : ℕ) : Type 0 where
  pub number : ℕ
  pub pushed : reverse after ≡ number ∷ reverse before
  pub is : Has new number ty
  pub inside : (c : TypeTree) → Has old context c → Has new inner (fun ty c)
