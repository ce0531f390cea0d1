-- Derivations line by line.
use Rattle.std.proofs.Common.{◌≡◌, ℕ, Result, Ok, Err, Some, None, refl, sym, ◌∙◌, ap}
use Rattle.lt_definitions.specs.Typing.{with_ok}
use Rattle.lt_definitions.specs.declared.reason.Reason.TheVariants.{MissingLine}
use Rattle.lt_definitions.specs.Rules.{line_at, with_line, with_found}
use Rattle.lt_nameless.specs.Nameless.{NamelessSequent}
use Rattle.lt_nameless.specs.NamelessRules.{NamelessOutcome}
use Rattle.lt_hol.specs.declared.line.Line.{Line}
use Rattle.lt_kernel.specs.declared.rule_fault.RuleFault.{RuleFault}
use Rattle.lt_kernel.specs.declared.rule_fault.RuleFault.TheVariants.{Bad, Duplicate, Memory}
use Rattle.lt_kernel.specs.Sequents.{sequent_at}
use Rattle.lt_kernel.specs.State.{State, sequents, AddsLine, Answers}
use Rattle.lt_kernel.specs.Reaching.{Holds, IsGiven, Reaches}

-- a line that was added has what its rule gives
pub adds-given : (old new : State) (by : Line) (outcome : NamelessOutcome) (n : ℕ) → AddsLine old new by outcome n → IsGiven new n outcome
adds-given old new by outcome n a = record { sequent = sequent_at new.nodes a.step.sequent; line = a.there; goes = a.gives }

pub answers-reaches : (old new : State) (by : Line) (r : Result ℕ RuleFault) (outcome : NamelessOutcome) → Answers old new by r outcome → Reaches new r outcome
answers-reaches old new by (Ok n) outcome a = adds-given old new by outcome n a
answers-reaches old new by (Err (Bad q)) outcome a = a.0
answers-reaches old new by (Err (Duplicate l)) outcome a = absurd a
answers-reaches old new by (Err Memory) outcome a = tt

abbrev ok : NamelessSequent → NamelessOutcome
ok s = Ok s

ok-same : (s u : NamelessSequent) → ok s ≡ ok u → s ≡ u
ok-same s u q = cc q

-- the line of a derivation that gives a sequent
pub reached-line : (s : State) (n : ℕ) (o : NamelessOutcome) (q : NamelessSequent) → IsGiven s n o → o ≡ Ok q → line_at (sequents s) n ≡ Some q
reached-line s n o q h e = h.line ∙ ap (λ (u : NamelessSequent). Some u) (ok-same h.sequent q (sym h.goes ∙ e))

-- .. which is refused for want of memory alone
pub reached-memory : (s : State) (e : RuleFault) (o : NamelessOutcome) (q : NamelessSequent) → Reaches s (Err e) o → o ≡ Ok q → e ≡ Memory
reached-memory s (Bad r) o q h e = absurd (ok-err q (sym e ∙ h))
  where
    ok-err : (u : NamelessSequent) → Ok u ≡ Err r → ⊥
    ok-err u d = cc d
reached-memory s (Duplicate l) o q h e = absurd h
reached-memory s Memory o q h e = refl

-- what comes first has a sequent
pub next-holds : (now next : State) (n m : ℕ) (f g : NamelessSequent → NamelessOutcome) (whole : NamelessOutcome)
    → Holds now n (λ s. with_ok (f s) g) whole → IsGiven next m (with_line (sequents now) n f) → Holds next m g whole
next-holds now next n m f g whole h a =
    let first : f h.sequent ≡ Ok a.sequent = sym (ap (λ o. with_found MissingLine o f) h.line) ∙ a.goes in
    record { sequent = a.sequent; line = a.line; goes = h.goes ∙ ap (λ o. with_ok o g) first }

-- .. or gives none
pub next-fails : (now next : State) (n : ℕ) (e : RuleFault) (f g : NamelessSequent → NamelessOutcome) (whole : NamelessOutcome)
    → Holds now n (λ s. with_ok (f s) g) whole → Reaches next (Err e) (with_line (sequents now) n f) → Reaches next (Err e) whole
next-fails now next n (Bad r) f g whole h a =
    let first : f h.sequent ≡ Err r = sym (ap (λ o. with_found MissingLine o f) h.line) ∙ a in
    h.goes ∙ ap (λ o. with_ok o g) first
next-fails now next n (Duplicate l) f g whole h a = absurd a
next-fails now next n Memory f g whole h a = tt

-- a line to begin with
pub begins : (s : State) (n : ℕ) (q : NamelessSequent) (f : NamelessSequent → NamelessOutcome) → line_at (sequents s) n ≡ Some q → Holds s n f (with_line (sequents s) n f)
begins s n q f e = record { sequent = q; line = e; goes = ap (λ o. with_found MissingLine o f) e }

-- no line to begin with
pub lacks : (s : State) (n : ℕ) (f : NamelessSequent → NamelessOutcome) → line_at (sequents s) n ≡ None → with_line (sequents s) n f ≡ Err MissingLine
lacks s n f e = ap (λ o. with_found MissingLine o f) e
