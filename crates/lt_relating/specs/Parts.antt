-- A statement in post-order, each part with how it is related, and what a derivation along it gives.
-- Source: this project's own.
use Rattle.std.specs.Prelude.{ℕ, List, [], ◌∷◌, slice_get, drop, Ok, Err}
use Rattle.lt_definitions.specs.Types.{Chars}
use Rattle.lt_definitions.specs.Typing.{Signature, with_ok}
use Rattle.lt_definitions.specs.Rules.{with_line, with_found}
use Rattle.lt_definitions.specs.declared.reason.Reason.TheVariants.{MissingLine}
use Rattle.lt_nameless.specs.Nameless.{Nameless, NamelessSequent}
use Rattle.lt_nameless.specs.NamelessRules.{NamelessOutcome, nameless_assume_gives}
use Rattle.lt_relating.specs.RelatedSteps.{Binding, applied_by, abstracted_by}

-- Named statements, and the labels of the two laws among them.
pub record Laws : Type 0 where
  pub named : List (Chars × Nameless)
  pub application : Chars
  pub abstraction : Chars

-- A constant, by the number of a line that relates it; a bound name, by the hypothesis that the
-- variables of its binder are related; an application of the part before the last to the last; an
-- abstraction of the last.
pub data Part : Type 0 where
  by_line : ℕ → Part
  by_name : Nameless → Part
  by_application : Part
  by_abstraction : Binding → Part

-- what the last two of these sequents give, which stand first: of functions and of arguments
abbrev pub applied_last : Signature → List (Chars × Nameless) → Chars → List NamelessSequent
    → NamelessOutcome
applied_last sig named label (u ∷ s ∷ ss) = applied_by sig named label s u
applied_last sig named label _ = Err MissingLine

-- what the last one gives, of values
abbrev pub abstracted_last : Signature → List (Chars × Nameless) → Chars → Binding
    → List NamelessSequent → NamelessOutcome
abstracted_last sig named label b (s ∷ ss) = abstracted_by sig named label b s
abstracted_last sig named label b [] = Err MissingLine

-- what a part gives, from the sequents of the parts before it, the last one first
abbrev pub part_gives : Signature → Laws → List NamelessSequent → List NamelessSequent → Part
    → NamelessOutcome
part_gives sig laws done ss (by_line n) = with_line done n (λ s. Ok s)
part_gives sig laws done ss (by_name p) = nameless_assume_gives sig p
part_gives sig laws done ss by_application = applied_last sig laws.named laws.application ss
part_gives sig laws done ss (by_abstraction b) =
    abstracted_last sig laws.named laws.abstraction b ss

-- how many of them it takes
abbrev pub taken : Part → ℕ
taken (by_line n) = 0
taken (by_name p) = 0
taken by_application = 2
taken (by_abstraction b) = 1

-- What the parts give one after another: the sequent of the last one, or the first reason.
abbrev pub walked : Signature → Laws → List NamelessSequent → List NamelessSequent → List Part
    → NamelessOutcome
walked sig laws done ss [] = with_found MissingLine (slice_get ss 0) (λ s. Ok s)
walked sig laws done ss (p ∷ ps) =
    with_ok (part_gives sig laws done ss p) (λ s.
    walked sig laws done (s ∷ drop (taken p) ss) ps)
