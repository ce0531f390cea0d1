-- What it is to derive lines in a kernel.
use Rattle.std.specs.Prelude.{◌≡◌, ℕ, List, [], ◌∷◌, ◌++◌, map, Option, Some, None, Result, Ok, Err}
use Rattle.lt_definitions.specs.Items.{Context}
use Rattle.lt_definitions.specs.Terms.{TermTree}
use Rattle.lt_definitions.specs.Typing.{Fault}
use Rattle.lt_definitions.specs.Rules.{Sequent, Rule, step}
use Rattle.lt_definitions.specs.Derivations.{LineFault, ill_typed, no_step, line_outcome, term_fault, rule_fault, derived}
use Rattle.lt_nameless.specs.Nameless.{nameless_sequent}
use Rattle.lt_kernel.specs.State.{State, sequents}
use Rattle.lt_hol.specs.declared.type_fault.TypeFault as faults
use Rattle.lt_hol.specs.declared.type_fault.TypeFault.{TypeFault}
use Rattle.lt_conditions.specs.declared.item_fault.ItemFault.{ItemFault}
use Rattle.lt_conditions.specs.declared.item_fault.ItemFault.TheVariants.{InLine, BadLine, Memory}
use Rattle.lt_conditions.specs.Refusing.{IsFault}

-- The lines so far have these sequents, up to binder names.
abbrev pub HasSequents : State → List Sequent → Type 0
HasSequents s done = sequents s ≡ map nameless_sequent done

-- the sequent of a line over a context and the lines before it, or its fault
abbrev pub outcome_of : Context → List Sequent → Rule TermTree → Result Sequent LineFault
outcome_of ctx done rule = line_outcome (rule_fault ctx.signature (term_fault ctx.signature) rule)
    (step ctx.signature ctx.statements done rule)

-- The answered fault is that of the line with its number. Want of memory may come at any growth.
abbrev pub RefusesLine : Option (ℕ × LineFault) → ItemFault → Type 0
RefusesLine o (InLine n e) = (f : Fault) × (o ≡ Some (n, ill_typed f)) × IsFault f e
RefusesLine o (BadLine n r) = o ≡ Some (n, no_step r)
RefusesLine o Memory = Unit {0}
RefusesLine o _ = ⊥

-- the fault of a lemma whose line with a number has this one
abbrev pub line_fault : ℕ → TypeFault → ItemFault
line_fault n faults.TheVariants.Memory = Memory
line_fault n e = InLine n e

-- a fault of the types and terms of the line with a number
abbrev pub ill_typed_at : ℕ → Option Fault → Option (ℕ × LineFault)
ill_typed_at n None = None
ill_typed_at n (Some f) = Some (n, ill_typed f)

-- the fault of the line with a number
abbrev pub at_number : {A : Type 0} → ℕ → Result A LineFault → Option (ℕ × LineFault)
at_number n (Ok s) = None
at_number n (Err f) = Some (n, f)

-- the fault of lines
abbrev pub wrong_line : {A : Type 0} → Result A (ℕ × LineFault) → Option (ℕ × LineFault)
wrong_line (Ok done) = None
wrong_line (Err e) = Some e

-- the line has a sequent, which is that of the newest line; or it has this fault
abbrev pub DerivesLine : Context → List Sequent → Rule TermTree → ℕ → State
    → Result (Unit {0}) ItemFault
    → Type 0
DerivesLine ctx done rule n new (Ok _) =
    (s : Sequent) × (outcome_of ctx done rule ≡ Ok s) × HasSequents new (done ++ s ∷ [])
DerivesLine ctx done rule n new (Err e) = RefusesLine (at_number n (outcome_of ctx done rule)) e

-- the lines have sequents, which are those of the kernel's lines; or one has this fault
abbrev pub DerivesLines : Context → List (Rule TermTree) → State → Result (Unit {0}) ItemFault
    → Type 0
DerivesLines ctx rules new (Ok _) = (done : List Sequent)
    × (derived ctx.signature ctx.statements [] rules ≡ Ok done) × HasSequents new done
DerivesLines ctx rules new (Err e) =
    RefusesLine (wrong_line (derived ctx.signature ctx.statements [] rules)) e
