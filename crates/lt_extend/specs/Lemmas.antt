-- What is answered where a statement is to be derived.
use Rattle.std.specs.Prelude.{◌≡◌, ℕ, Option, None, Result, Ok, Err}
use Rattle.lt_definitions.specs.Theory.{Refusal}
use Rattle.lt_conditions.specs.declared.item_fault.ItemFault.{ItemFault}
use Rattle.lt_conditions.specs.Refusing.{Refuses}

-- a number where there is no refusal, else the refusal that there is
abbrev pub Proves : Option Refusal → Result ℕ ItemFault → Type 0
Proves o (Ok id) = o ≡ None
Proves o (Err e) = Refuses o e
