-- What is answered of a term's type.
use Rattle.std.specs.Prelude.{◌≡◌, [], Result, Ok, Err}
use Rattle.lt_definitions.specs.Types.{TypeTree}
use Rattle.lt_definitions.specs.Terms.{TermTree}
use Rattle.lt_definitions.specs.Typing.{Signature, typed}
use Rattle.lt_definitions.specs.Derivations.{term_fault}
use Rattle.lt_definitions.specs.Theory.{fault_test}
use Rattle.lt_conditions.specs.declared.item_fault.ItemFault.{ItemFault}
use Rattle.lt_conditions.specs.Refusing.{Refuses}

-- the type, or the term's first fault
abbrev pub IsTypeOf : Signature → TermTree → Result TypeTree ItemFault → Type 0
IsTypeOf sig t (Ok ty) = typed sig [] t ≡ Ok ty
IsTypeOf sig t (Err e) = Refuses (fault_test (term_fault sig t)) e
