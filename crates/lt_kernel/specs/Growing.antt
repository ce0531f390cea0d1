-- Proofs that grow: what stays of them, and that it stays over any number of calls.
use Rattle.std.specs.Prelude.{◌≡◌, ℕ, Some}
use Rattle.std.specs.List.{All}
use Rattle.lt_definitions.specs.Rules.{line_at}
use Rattle.lt_nameless.specs.Booleans.{IsSoundSignature}
use Rattle.lt_nameless.specs.Nameless.{NamelessSequent}
use Rattle.lt_nameless.specs.NamelessRules.{IsBooleanNameless, IsBooleanNamelessSequent}
use Rattle.lt_kernel.specs.declared.sequent.Step.{Step}
use Rattle.lt_kernel.specs.State.{State, sequents, statements, Stays}

-- The declarations are sound, and each named statement and each line is of boolean terms.
pub record IsSound (s : State) : Type 0 where
  pub signature : IsSoundSignature s.signature
  pub statements : All (λ p. IsBooleanNameless s.signature p.1) (statements s)
  pub lines : All (IsBooleanNamelessSequent s.signature) (sequents s)

-- Each id stands for what it stood for, the same is declared and stated, the lines stay, and further ones may follow. What was
-- sound is sound.
pub record Grows (old new : State) : Type 0 where
  pub stays : Stays old new
  pub steps : (n : ℕ) (s : Step) → line_at old.steps n ≡ Some s → line_at new.steps n ≡ Some s
  pub lines : (n : ℕ) (s : NamelessSequent) → line_at (sequents old) n ≡ Some s → line_at (sequents new) n ≡ Some s
  pub sound : IsSound old → IsSound new

-- Whatever had grown to the old proof has grown to the new one. In this form it goes through any number of calls and exits.
abbrev pub Carries : State → State → Type 0
Carries old new = (first : State) → Grows first old → Grows first new
