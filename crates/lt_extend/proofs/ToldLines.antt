-- Lines that are told over places of shared nodes.
use Rattle.std.proofs.Common.{◌≡◌, ℕ, ◌+◌, List, [], ◌∷◌, ◌++◌, map, take, slice_get, Some, refl, sym, ◌∙◌, ap, subst}
use Rattle.std.proofs.lemmas.List.{map-append, take_more}
use Rattle.std.proofs.lemmas.Option.{slice_get_within, get_or_from_slice_get}
use Rattle.lt_definitions.specs.Typing.{Signature}
use Rattle.lt_definitions.specs.Rules.{Rule}
use Rattle.lt_nameless.specs.Nameless.{Nameless}
use Rattle.lt_hol.specs.declared.line.Line.{Line}
use Rattle.lt_hol.specs.declared.lines.Lines.{Lines}
use Rattle.lt_store.specs.declared.node.Node.{Node}
use Rattle.lt_kernel.specs.declared.sequent.Step.{Step}
use Rattle.lt_kernel.specs.Lines.{rule_at, IsGoodLine}
use Rattle.lt_kernel.specs.Derived.{AreDerived}
use Rattle.lt_kernel.specs.State.{State}
use Rattle.lt_extend.specs.Telling.{rules_at, KeepsRules}

pub kept-none : (lines : Lines) → KeepsRules lines lines
kept-none lines = record { lines = refl; rules = refl }

pub kept-on : (old mid new : Lines) → KeepsRules old mid → KeepsRules mid new → KeepsRules old new
kept-on old mid new p q = record { lines = q.lines ∙ p.lines; rules = q.rules ∙ p.rules }

-- the first so many lines, and one more
pub rules-next : (s : State) (nodes : List Node) (steps : List Step) (i : ℕ) (st : Step) (old new : List (Rule Nameless)) → nodes ≡ s.nodes → steps ≡ s.steps → slice_get steps i ≡ Some st → old ≡ rules_at s i
    → new ≡ old ++ rule_at nodes st.line ∷ [] → new ≡ rules_at s (i + 1)
rules-next s nodes steps i st old new e f h before is =
    let rule : Step → Rule Nameless = λ st. rule_at s.nodes st.line in
    let at : slice_get s.steps i ≡ Some st = ap (λ (ss : List Step). slice_get ss i) (sym f) ∙ h in
    let next : take (i + 1) s.steps ≡ take i s.steps ++ st ∷ [] =
    take_more s.steps i st (slice_get_within s.steps i st at) ∙ ap (λ (q : Step). take i s.steps ++ q ∷ []) (get_or_from_slice_get s.steps i st st at) in
    is ∙ (λ j. before j ++ rule_at (e j) st.line ∷ []) ∙ sym (ap (map rule) next ∙ map-append rule (take i s.steps) (st ∷ []))

-- a line that is told by its variant
pub good-at : (sig : Signature) (nodes : List Node) (line also : Line) → line ≡ also → IsGoodLine sig nodes line → IsGoodLine sig nodes also
good-at sig nodes line also e g = subst (IsGoodLine sig nodes) e g

-- a line of a kernel is good
pub good-placed : (s : State) (nodes : List Node) (steps : List Step) (i : ℕ) (st : Step) → AreDerived s → nodes ≡ s.nodes → steps ≡ s.steps → slice_get steps i ≡ Some st
    → (sig : Signature) × IsGoodLine sig nodes st.line
good-placed s nodes steps i st d e f h =
    let one = d i st (ap (λ (ss : List Step). slice_get ss i) (sym f) ∙ h) in
    (one.signature, subst (λ (ns : List Node). IsGoodLine one.signature ns st.line) (sym e) one.good)
