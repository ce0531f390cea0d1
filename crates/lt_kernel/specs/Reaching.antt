-- What a line holds, and what a call that adds several lines answers: the outcome of a derivation over sequents.
use Rattle.std.specs.Prelude.{◌≡◌, ℕ, Some, Result, Ok, Err}
use Rattle.lt_definitions.specs.Rules.{line_at}
use Rattle.lt_nameless.specs.Nameless.{NamelessSequent}
use Rattle.lt_nameless.specs.NamelessRules.{NamelessOutcome}
use Rattle.lt_kernel.specs.declared.rule_fault.RuleFault.{RuleFault}
use Rattle.lt_kernel.specs.declared.rule_fault.RuleFault.TheVariants.{Bad, Duplicate, Memory}
use Rattle.lt_kernel.specs.State.{State, sequents}

-- The line has a sequent, from which the rest of a derivation gives what the whole gives.
pub record Holds (now : State) (n : ℕ) (rest : NamelessSequent → NamelessOutcome) (whole : NamelessOutcome) : Type 0 where
  pub sequent : NamelessSequent
  pub line : line_at (sequents now) n ≡ Some sequent
  pub goes : whole ≡ rest sequent

-- The line has the sequent that is given.
abbrev pub IsGiven : State → ℕ → NamelessOutcome → Type 0
IsGiven now n whole = Holds now n (λ s. Ok s) whole

-- The line answered has the sequent that is given, or none is given, for this reason. Want of memory may come at any growth.
abbrev pub Reaches : State → Result ℕ RuleFault → NamelessOutcome → Type 0
Reaches now (Ok n) whole = IsGiven now n whole
Reaches now (Err (Bad r)) whole = whole ≡ Err r
Reaches now (Err (Duplicate l)) whole = ⊥
Reaches now (Err Memory) whole = Unit {0}
