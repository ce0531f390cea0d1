-- What an answered fault tells of an item's first refusal.
use Rattle.std.specs.Prelude.{◌≡◌, ◌∷◌, List, [], map, Option, Some, None, option_map, Result, Ok, Err}
use Rattle.lt_definitions.specs.Types.{Chars}
use Rattle.lt_definitions.specs.Terms.{TermTree}
use Rattle.lt_definitions.specs.Typing.{Signature, Fault, unknown_type, arity, unknown_const, type_args, unbound, mismatch}
use Rattle.lt_definitions.specs.Rules.{Sequent}
use Rattle.lt_definitions.specs.Items.{Context}
use Rattle.lt_definitions.specs.Theory.{Refusal, at_fault, not_boolean, unknown_statement, duplicate, open_term, loose_type_var, typedef_shape, in_line, bad_line, not_proved}
use Rattle.lt_nameless.specs.Nameless.{NamelessSequent, nameless_sequent}
use Rattle.lt_hol.specs.declared.type_fault.TypeFault as faults
use Rattle.lt_hol.specs.declared.type_fault.TypeFault.{TypeFault}
use Rattle.lt_conditions.specs.declared.item_fault.TermSequent.{TermSequent}
use Rattle.lt_conditions.specs.declared.item_fault.ItemFault.{ItemFault}
use Rattle.lt_conditions.specs.declared.item_fault.ItemFault.TheVariants.{Duplicate, UnknownType, Arity, UnknownConst, TypeArgs, Unbound, Mismatch, NotBool, UnknownLabel, OpenTerm, LooseTypeVar, TypedefShape, InLine, BadLine, NotProved, Memory}

-- a sequent of terms, without binder names
abbrev pub shown : TermSequent → NamelessSequent
shown s = nameless_sequent (record { hyps = s.hyps; concl = s.concl })

-- The fault of a type or a term is this one.
abbrev pub IsFault : Fault → TypeFault → Type 0
IsFault f (faults.TheVariants.UnknownType c) = f ≡ unknown_type c
IsFault f (faults.TheVariants.Arity c) = f ≡ arity c
IsFault f (faults.TheVariants.UnknownConst c) = f ≡ unknown_const c
IsFault f (faults.TheVariants.TypeArgs c) = f ≡ type_args c
IsFault f (faults.TheVariants.Unbound x) = f ≡ unbound x
IsFault f (faults.TheVariants.Mismatch t u) = f ≡ mismatch t u
IsFault f (faults.TheVariants.Duplicate c) = ⊥
IsFault f faults.TheVariants.Memory = ⊥

-- the fault of an item whose type or term has this one
abbrev pub item_fault : TypeFault → ItemFault
item_fault (faults.TheVariants.Duplicate c) = Duplicate c
item_fault (faults.TheVariants.UnknownType c) = UnknownType c
item_fault (faults.TheVariants.Arity c) = Arity c
item_fault (faults.TheVariants.UnknownConst c) = UnknownConst c
item_fault (faults.TheVariants.TypeArgs c) = TypeArgs c
item_fault (faults.TheVariants.Unbound x) = Unbound x
item_fault (faults.TheVariants.Mismatch t u) = Mismatch t u
item_fault faults.TheVariants.Memory = Memory

-- The answered fault is the refusal that there is, with its values; a sequent up to the names of
-- binders. Want of memory may come at any growth.
abbrev pub Refuses : Option Refusal → ItemFault → Type 0
Refuses o (Duplicate n) = o ≡ Some (duplicate n)
Refuses o (UnknownType c) = o ≡ Some (at_fault (unknown_type c))
Refuses o (Arity c) = o ≡ Some (at_fault (arity c))
Refuses o (UnknownConst c) = o ≡ Some (at_fault (unknown_const c))
Refuses o (TypeArgs c) = o ≡ Some (at_fault (type_args c))
Refuses o (Unbound x) = o ≡ Some (at_fault (unbound x))
Refuses o (Mismatch t u) = o ≡ Some (at_fault (mismatch t u))
Refuses o (NotBool ty) = o ≡ Some (not_boolean ty)
Refuses o (UnknownLabel l) = o ≡ Some (unknown_statement l)
Refuses o OpenTerm = o ≡ Some open_term
Refuses o (LooseTypeVar a) = o ≡ Some (loose_type_var a)
Refuses o TypedefShape = o ≡ Some typedef_shape
Refuses o (InLine n e) = (f : Fault) × (o ≡ Some (in_line n f)) × IsFault f e
Refuses o (BadLine n r) = o ≡ Some (bad_line n r)
Refuses o (NotProved last) = (s : Option Sequent) × (o ≡ Some (not_proved s))
    × (option_map nameless_sequent s ≡ option_map shown last)
Refuses o Memory = Unit {0}

-- Ok where there is no refusal, else the refusal that there is.
abbrev pub Tests : Option Refusal → Result (Unit {0}) ItemFault → Type 0
Tests o (Ok _) = o ≡ None
Tests o (Err e) = Refuses o e

-- what is declared and stated, as one
abbrev pub context_at : Signature → List (Chars × TermTree) → Context
context_at sig statements = record { signature = sig; statements = statements }
