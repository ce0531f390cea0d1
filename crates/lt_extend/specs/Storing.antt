-- What it is to put the types and terms of a line into a store.
use Rattle.std.specs.Prelude.{◌≡◌, ℕ, ◌<◌, List, [], length, None, Result, Ok, Err}
use Rattle.lt_definitions.specs.Terms.{TermTree}
use Rattle.lt_definitions.specs.Typing.{Signature}
use Rattle.lt_definitions.specs.Rules.{Rule}
use Rattle.lt_definitions.specs.Derivations.{term_fault, rule_fault}
use Rattle.lt_nameless.specs.Nameless.{nameless}
use Rattle.lt_nameless.specs.NamelessRules.{nameless_rule}
use Rattle.lt_hol.specs.declared.line.Line.{Line}
use Rattle.lt_store.specs.declared.node.Node.{Node}
use Rattle.lt_store.specs.Trees.{tree_at}
use Rattle.lt_kernel.specs.Lines.{rule_at, IsGoodLine}
use Rattle.lt_hol.specs.Faults.{Finds}
use Rattle.lt_hol.specs.declared.type_fault.TypeFault.{TypeFault}

-- The id stands for a term without a fault.
pub record IsStored (sig : Signature) (nodes : List Node) (t : TermTree) (id : ℕ) : Type 0 where
  pub within : id < length nodes
  pub is : tree_at nodes id ≡ nameless [] t
  pub typed : term_fault sig t ≡ None

-- the term is stored, or has this fault
abbrev pub StoresTerm : Signature → List Node → TermTree → Result ℕ TypeFault → Type 0
StoresTerm sig nodes t (Ok id) = IsStored sig nodes t id
StoresTerm sig nodes t (Err e) = Finds (term_fault sig t) e

-- The line's terms are ids; it stands for a rule whose types and terms have no fault.
pub record IsStoredLine (sig : Signature) (nodes : List Node) (rule : Rule TermTree)
    (line : Line) : Type 0 where
  pub good : IsGoodLine sig nodes line
  pub is : rule_at nodes line ≡ nameless_rule rule
  pub typed : rule_fault sig (term_fault sig) rule ≡ None

-- the line is stored, or has this fault
abbrev pub StoresLine : Signature → List Node → Rule TermTree → Result Line TypeFault → Type 0
StoresLine sig nodes rule (Ok line) = IsStoredLine sig nodes rule line
StoresLine sig nodes rule (Err e) = Finds (rule_fault sig (term_fault sig) rule) e
