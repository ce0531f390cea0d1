-- What contracts see of a proof, and what its calls answer.
use Rattle.std.specs.Prelude.{◌≡◌, ℕ, List, [], ◌∷◌, ◌++◌, length, is_some, true, Some, None, Result, Ok, Err}
use Rattle.lt_definitions.specs.Types.{Chars, found}
use Rattle.lt_definitions.specs.Typing.{Signature}
use Rattle.lt_definitions.specs.Rules.{line_at}
use Rattle.lt_nameless.specs.Nameless.{Nameless, NamelessSequent}
use Rattle.lt_nameless.specs.NamelessRules.{NamelessOutcome, nameless_step}
use Rattle.lt_hol.specs.declared.line.Line.{Line}
use Rattle.lt_store.specs.declared.node.Node.{Node}
use Rattle.lt_store.specs.Trees.{Extends}
use Rattle.lt_kernel.specs.declared.sequent.Step.{Step}
use Rattle.lt_kernel.specs.declared.rule_fault.RuleFault.{RuleFault}
use Rattle.lt_kernel.specs.declared.rule_fault.RuleFault.TheVariants.{Bad, Duplicate, Memory}
use Rattle.lt_kernel.specs.Sequents.{sequent_at, sequents_at, statements_at}
use Rattle.lt_kernel.specs.Lines.{rule_at}

-- The nodes of its store; what is declared; the named statements and the lines so far, by ids.
pub record State : Type 0 where
  pub nodes : List Node
  pub signature : Signature
  pub named : List (Chars × ℕ)
  pub steps : List Step

-- the sequents of the lines so far
abbrev pub sequents : State → List NamelessSequent
sequents s = sequents_at s.nodes s.steps

-- the named statements
abbrev pub statements : State → List (Chars × Nameless)
statements s = statements_at s.nodes s.named

-- what a line's rule gives
abbrev pub step_of : State → Line → NamelessOutcome
step_of s line = nameless_step s.signature (statements s) (sequents s) (rule_at s.nodes line)

-- Each id stands for what it stood for, and the same is declared and stated.
pub record Stays (old new : State) : Type 0 where
  pub nodes : Extends old.nodes new.nodes
  pub signature : new.signature ≡ old.signature
  pub named : new.named ≡ old.named
  pub statements : statements new ≡ statements old

-- The lines stay too.
pub record Keeps (old new : State) : Type 0 where
  pub stays : Stays old new
  pub steps : new.steps ≡ old.steps
  pub sequents : sequents new ≡ sequents old

-- The line was added behind the others, which stay, with the sequent that its rule gives, and has this number.
pub record AddsLine (old new : State) (by : Line) (outcome : NamelessOutcome) (n : ℕ) : Type 0 where
  pub stays : Stays old new
  pub step : Step
  pub line : step.line ≡ by
  pub gives : outcome ≡ Ok (sequent_at new.nodes step.sequent)
  pub there : line_at (sequents new) n ≡ Some (sequent_at new.nodes step.sequent)
  pub steps : new.steps ≡ old.steps ++ step ∷ []
  pub sequents : sequents new ≡ sequents old ++ sequent_at new.nodes step.sequent ∷ []
  pub number : n ≡ length new.steps

-- The line was added with what its rule gives, or its rule gives nothing, for the first reason that is answered, and all stays.
abbrev pub Answers : State → State → Line → Result ℕ RuleFault → NamelessOutcome → Type 0
Answers old new line (Ok n) outcome = AddsLine old new line outcome n
Answers old new line (Err (Bad r)) outcome = (outcome ≡ Err r) × Keeps old new
Answers old new line (Err (Duplicate l)) outcome = ⊥
Answers old new line (Err Memory) outcome = Keeps old new

-- A statement is named where none has the label, or the label is told.
abbrev pub Names : State → State → Chars → ℕ → Result (Unit {0}) RuleFault → Type 0
Names old new label id (Ok _) = (found label old.named ≡ None) × (new ≡ record old { named = old.named ++ (label, id) ∷ [] })
Names old new label id (Err (Bad r)) = ⊥
Names old new label id (Err (Duplicate l)) = (l ≡ label) × (is_some (found label old.named) ≡ true) × (new ≡ old)
Names old new label id (Err Memory) = new ≡ old
