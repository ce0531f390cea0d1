-- What calls answer about types, terms and declarations. Want of memory may come at any growth.
use Rattle.std.specs.Prelude.{◌≡◌, ℕ, [], ◌∷◌, ◌++◌, take, true, is_some, Option, Some, None, Result, Ok, Err}
use Rattle.lt_definitions.specs.Types.{Chars, TypeTree, found}
use Rattle.lt_definitions.specs.Typing.{Signature, type_fault, unknown_type, arity, unknown_const, type_args, unbound, mismatch}
use Rattle.lt_definitions.specs.Typing as typing
use Rattle.lt_hol.specs.declared.type_fault.TypeFault.{TypeFault}
use Rattle.lt_hol.specs.declared.type_fault.TypeFault.TheVariants.{Duplicate, UnknownType, Arity, UnknownConst, TypeArgs, Unbound, Mismatch, Memory}

abbrev pub Fault : Type 0
Fault = typing.Fault

-- the answered fault is the one that there is
abbrev pub Finds : Option Fault → TypeFault → Type 0
Finds fault (UnknownType c) = fault ≡ Some (unknown_type c)
Finds fault (Arity c) = fault ≡ Some (arity c)
Finds fault (UnknownConst c) = fault ≡ Some (unknown_const c)
Finds fault (TypeArgs c) = fault ≡ Some (type_args c)
Finds fault (Unbound x) = fault ≡ Some (unbound x)
Finds fault (Mismatch t u) = fault ≡ Some (mismatch t u)
Finds fault (Duplicate c) = ⊥
Finds fault Memory = Unit {0}

-- Ok where there is no fault
abbrev pub Checks : Option Fault → Result (Unit {0}) TypeFault → Type 0
Checks fault (Ok _) = fault ≡ None
Checks fault (Err e) = Finds fault e

abbrev pub fault_of : {A : Type 0} → Result A Fault → Option Fault
fault_of (Ok x) = None
fault_of (Err f) = Some f

-- the value where there is one, else the fault
abbrev pub Gives : {A : Type 0} → Result A Fault → Result A TypeFault → Type 0
Gives outcome (Ok x) = outcome ≡ Ok x
Gives outcome (Err e) = Finds (fault_of outcome) e

-- one more type, one more constant
abbrev pub with_type : Chars → ℕ → Signature → Signature
with_type name count sig = record sig { types = sig.types ++ (name, count) ∷ [] }

abbrev pub with_const : Chars → TypeTree → Signature → Signature
with_const name ty sig = record sig { consts = sig.consts ++ (name, ty) ∷ [] }

-- the first so many types and constants
abbrev pub cut : ℕ → ℕ → Signature → Signature
cut types consts sig = record { types = take types sig.types; consts = take consts sig.consts }

-- why a type is not declared
abbrev pub RefusesType : Signature → Chars → TypeFault → Type 0
RefusesType sig name (Duplicate c) = (c ≡ name) × (is_some (found name sig.types) ≡ true)
RefusesType sig name Memory = Unit {0}
RefusesType sig name _ = ⊥

-- A type is declared where there is none of its name.
abbrev pub DeclaresType : (old new : Signature) → Chars → ℕ → Result (Unit {0}) TypeFault → Type 0
DeclaresType old new name count (Ok _) = (found name old.types ≡ None) × (new ≡ with_type name count old)
DeclaresType old new name count (Err e) = (new ≡ old) × RefusesType old name e

-- why a constant is not declared: its name first, then the first fault of its type
abbrev pub RefusesConst : Signature → Chars → TypeTree → TypeFault → Type 0
RefusesConst sig name ty (Duplicate c) = (c ≡ name) × (is_some (found name sig.consts) ≡ true)
RefusesConst sig name ty Memory = Unit {0}
RefusesConst sig name ty e = (found name sig.consts ≡ None) × Finds (type_fault sig ty) e

-- A constant is declared where there is none of its name and its type has no fault.
abbrev pub DeclaresConst : (old new : Signature) → Chars → TypeTree → Result (Unit {0}) TypeFault → Type 0
DeclaresConst old new name ty (Ok _) = (found name old.consts ≡ None) × (type_fault old ty ≡ None) × (new ≡ with_const name ty old)
DeclaresConst old new name ty (Err e) = (new ≡ old) × RefusesConst old name ty e
