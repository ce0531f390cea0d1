-- Lines closed over both variables of a pair.
use Rattle.std.proofs.Common.{◌≡◌, ℕ, is_some, true, Result, Ok, Err, None, sym, ◌∙◌, ap, subst}
use Rattle.lt_definitions.specs.Types.{Chars, TypeTree}
use Rattle.lt_definitions.specs.Typing.{type_fault, with_ok}
use Rattle.lt_definitions.specs.Rules.{line_at, with_line}
use Rattle.lt_nameless.specs.Nameless.{Nameless, NamelessSequent}
use Rattle.lt_nameless.specs.NamelessRules.{NamelessOutcome, discharged, generalised, nameless_impI_gives, nameless_allI_gives}
use Rattle.lt_kernel.specs.declared.rule_fault.RuleFault.{RuleFault}
use Rattle.lt_kernel.specs.State.{State, sequents}
use Rattle.lt_kernel.specs.Growing.{Carries}
use Rattle.lt_kernel.specs.Reaching.{Holds, IsGiven, Reaches}
use Rattle.lt_kernel.proofs.GrowingLemmas.{carries-grows}
use Rattle.lt_kernel.proofs.ReachingLemmas.{next-holds, next-fails, begins}
use Rattle.lt_derived.proofs.Repeated.{some-of}
use Rattle.lt_relating.specs.RelatedSteps.{Binding, closed_over_both}
use Rattle.lt_relating.proofs.OutcomeSteps.{last-reaches}

-- a type without a fault stays one
pub type-kept : (old new : State) (ty copy : TypeTree) → Carries old new → copy ≡ ty → type_fault old.signature ty ≡ None → type_fault new.signature copy ≡ None
type-kept old new ty copy c e h = let g = carries-grows old new c in (λ i. type_fault (g.stays.signature i) (e i)) ∙ h

module _ (old : State) (b : Binding) (p : Nameless) (i : ℕ) (there : is_some (line_at (sequents old) i) ≡ true) where
  abbrev closes : NamelessSequent → NamelessOutcome
  closes = closed_over_both old.signature b p

  abbrev behind : NamelessSequent → NamelessOutcome
  behind u = with_ok (generalised b.given b.right u) (generalised b.image b.left)

  abbrev whole : NamelessOutcome
  whole = with_line (sequents old) i closes

  begun : Holds old i (λ s. with_ok (discharged old.signature p s) behind) whole
  begun = let q = some-of (line_at (sequents old) i) there in begins old i q.0 closes q.1

  pub implied-fails : (next : State) (e : RuleFault) → Reaches next (Err e) (nameless_impI_gives old.signature (sequents old) p i) → Reaches next (Err e) whole
  implied-fails next e a = next-fails old next i e (discharged old.signature p) behind whole begun a

  module _ (one : State) (m : ℕ) (g : IsGiven one m (nameless_impI_gives old.signature (sequents old) p i)) (given : Chars) (right : TypeTree) (hn : given ≡ b.given) (ht : right ≡ b.right) where
    implied : Holds one m behind whole
    implied = next-holds old one i m (discharged old.signature p) behind whole begun g

    same : nameless_allI_gives (sequents one) given right m ≡ with_line (sequents one) m (generalised b.given b.right)
    same = λ v. nameless_allI_gives (sequents one) (hn v) (ht v) m

    pub inner-fails : (next : State) (e : RuleFault) → Reaches next (Err e) (nameless_allI_gives (sequents one) given right m) → Reaches next (Err e) whole
    inner-fails next e a =
        next-fails one next m e (generalised b.given b.right) (generalised b.image b.left) whole implied (subst (λ (o : NamelessOutcome). Reaches next (Err e) o) same a)

    module _ (two : State) (n : ℕ) (k : IsGiven two n (nameless_allI_gives (sequents one) given right m)) (image : Chars) (left : TypeTree) (hi : image ≡ b.image) (hl : left ≡ b.left) where
      inner : Holds two n (generalised b.image b.left) whole
      inner = next-holds one two m n (generalised b.given b.right) (generalised b.image b.left) whole implied (subst (λ (o : NamelessOutcome). IsGiven two n o) same k)

      pub closed-reaches : (next : State) (r : Result ℕ RuleFault) → Reaches next r (nameless_allI_gives (sequents two) image left n) → Reaches next r whole
      closed-reaches next r a =
          last-reaches two next n r (generalised b.image b.left) whole inner
          (subst (λ (o : NamelessOutcome). Reaches next r o) (λ v. nameless_allI_gives (sequents two) (hi v) (hl v) n) a)
