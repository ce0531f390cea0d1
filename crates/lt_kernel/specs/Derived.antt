-- Lines that were derived: each line's sequent is what its rule gives from the lines before it.
use Rattle.std.specs.Prelude.{◌≡◌, ℕ, List, ◌++◌, take, slice_get, Some, Ok}
use Rattle.lt_definitions.specs.Types.{Chars}
use Rattle.lt_definitions.specs.Typing.{Signature}
use Rattle.lt_nameless.specs.NamelessRules.{nameless_step}
use Rattle.lt_kernel.specs.declared.sequent.Step.{Step}
use Rattle.lt_kernel.specs.Lines.{rule_at, IsGoodLine}
use Rattle.lt_kernel.specs.Sequents.{sequent_at, statements_at}
use Rattle.lt_kernel.specs.State.{State, sequents}

-- the second list goes on where the first ends
abbrev pub GoesOn : {A : Type 0} → List A → List A → Type 0
GoesOn {A} old new = (more : List A) × (new ≡ old ++ more)

-- The line at a place, from 0, has the sequent that its rule gave from the lines before it, over what was declared and stated
-- when it came. More may have been declared and stated since.
pub record IsDerived (s : State) (place : ℕ) (step : Step) : Type 0 where
  pub signature : Signature
  pub named : List (Chars × ℕ)
  pub types : GoesOn signature.types s.signature.types
  pub consts : GoesOn signature.consts s.signature.consts
  pub statements : GoesOn named s.named
  pub good : IsGoodLine signature s.nodes step.line
  pub gives : nameless_step signature (statements_at s.nodes named) (take place (sequents s)) (rule_at s.nodes step.line) ≡ Ok (sequent_at s.nodes step.sequent)

-- Each line has.
abbrev pub AreDerived : State → Type 0
AreDerived s = (place : ℕ) (step : Step) → slice_get s.steps place ≡ Some step → IsDerived s place step
