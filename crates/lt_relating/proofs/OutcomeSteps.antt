-- Derivations line by line: what comes first fails, and what comes last.
use Rattle.std.proofs.Common.{◌≡◌, ℕ, Result, Ok, Err, Option, Some, None, refl, sym, ◌∙◌, ap, subst}
use Rattle.std.specs.Option.{option_and_then, option_map}
use Rattle.lt_definitions.specs.Typing.{with_ok}
use Rattle.lt_definitions.specs.Rules.{line_at, with_line, with_found}
use Rattle.lt_definitions.specs.declared.reason.Reason.{Reason}
use Rattle.lt_definitions.specs.declared.reason.Reason.TheVariants.{MissingLine}
use Rattle.lt_nameless.specs.Nameless.{NamelessSequent}
use Rattle.lt_nameless.specs.NamelessRules.{NamelessOutcome}
use Rattle.lt_kernel.specs.declared.rule_fault.RuleFault.{RuleFault}
use Rattle.lt_kernel.specs.declared.rule_fault.RuleFault.TheVariants.{Bad, Duplicate, Memory}
use Rattle.lt_kernel.specs.State.{State, sequents}
use Rattle.lt_kernel.specs.Reaching.{Holds, IsGiven, Reaches}
use Rattle.lt_derived.proofs.Stated.{same-reaches}

-- what fails first fails
pub fails-first : (s : State) (e : RuleFault) (o : NamelessOutcome) (f : NamelessSequent → NamelessOutcome) → Reaches s (Err e) o → Reaches s (Err e) (with_ok o f)
fails-first s (Bad r) o f a = ap (λ p. with_ok p f) a
fails-first s (Duplicate l) o f a = absurd a
fails-first s Memory o f a = tt

-- of another outcome that is the same
pub same-fails : (s : State) (e : RuleFault) (o p : NamelessOutcome) → p ≡ o → Reaches s (Err e) o → Reaches s (Err e) p
same-fails s e o p q a = same-reaches s (Err e) o p (sym q) a

-- the last line of a derivation
pub last-reaches : (now next : State) (n : ℕ) (r : Result ℕ RuleFault) (f : NamelessSequent → NamelessOutcome) (whole : NamelessOutcome)
    → Holds now n f whole → Reaches next r (with_line (sequents now) n f) → Reaches next r whole
last-reaches now next n r f whole h a =
    same-reaches next r (with_line (sequents now) n f) whole (ap (λ o. with_found MissingLine o f) h.line ∙ sym h.goes) a

-- ---- parts that are found

pub then-some : {A B : Type 0} (f : A → Option B) (o : Option A) (y : B) → option_and_then f o ≡ Some y → (x : A) × (o ≡ Some x) × (f x ≡ Some y)
then-some f (Some x) y e = (x, refl, e)
then-some f None y e = absurd (cc e)

pub map-some : {A B : Type 0} (f : A → B) (o : Option A) (y : B) → option_map f o ≡ Some y → (x : A) × (o ≡ Some x) × (f x ≡ y)
map-some f (Some x) y e = let same : f x ≡ y = cc e in (x, refl, same)
map-some f None y e = absurd (cc e)
