-- Faults of items as refusals.
use Rattle.std.specs.Prelude.{ℕ, Option, Some, None, option_map}
use Rattle.lt_hol.specs.declared.type_fault.TypeFault.{TypeFault}
use Rattle.lt_hol.specs.declared.type_fault.TypeFault.TheVariants as types
use Rattle.lt_conditions.specs.declared.item_fault.ItemFault.{ItemFault}
use Rattle.lt_conditions.specs.declared.item_fault.ItemFault.TheVariants as items
use Rattle.lt_conditions.specs.declared.item_fault.TermSequent.{TermSequent}
use Rattle.lt_commands.specs.declared.refusal.SequentTerms.{SequentTerms}
use Rattle.lt_commands.specs.declared.refusal.Refusal.{Refusal}
use Rattle.lt_commands.specs.declared.refusal.Refusal.TheVariants.{Duplicate, UnknownType, Arity, UnknownConst, TypeArgs, Unbound, Mismatch, NotBool, UnknownLabel, OpenTerm, LooseTypeVar, TypedefShape, BadLine, NotProved, Memory}

-- a sequent of a theory as a refusal keeps it
abbrev pub as_terms : TermSequent → SequentTerms
as_terms s = record { hyps = s.hyps; concl = s.concl }

-- a fault of a type or a term
abbrev pub flat_type : TypeFault → Refusal
flat_type (types.Duplicate c) = Duplicate c
flat_type (types.UnknownType c) = UnknownType c
flat_type (types.Arity c) = Arity c
flat_type (types.UnknownConst c) = UnknownConst c
flat_type (types.TypeArgs c) = TypeArgs c
flat_type (types.Unbound x) = Unbound x
flat_type (types.Mismatch t u) = Mismatch t u
flat_type types.Memory = Memory

-- a fault of an item
abbrev pub flat : ItemFault → Refusal
flat (items.Duplicate n) = Duplicate n
flat (items.UnknownType c) = UnknownType c
flat (items.Arity c) = Arity c
flat (items.UnknownConst c) = UnknownConst c
flat (items.TypeArgs c) = TypeArgs c
flat (items.Unbound x) = Unbound x
flat (items.Mismatch t u) = Mismatch t u
flat (items.NotBool ty) = NotBool ty
flat (items.UnknownLabel l) = UnknownLabel l
flat items.OpenTerm = OpenTerm
flat (items.LooseTypeVar a) = LooseTypeVar a
flat items.TypedefShape = TypedefShape
flat (items.InLine n f) = flat_type f
flat (items.BadLine n r) = BadLine n r
flat (items.NotProved last) = NotProved (option_map as_terms last)
flat items.Memory = Memory

-- the number of the lemma's line in which it stands
abbrev pub line_in : ItemFault → Option ℕ
line_in (items.InLine n f) = Some n
line_in (items.BadLine n r) = Some n
line_in _ = None
