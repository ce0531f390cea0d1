-- A rule gives alpha-equal outcomes from alpha-equal statements, sequents and lines.
use Rattle.std.proofs.Common.{◌≡◌, List, None, sym, ◌∙◌, ap}
use Rattle.lt_definitions.specs.Types.{Chars}
use Rattle.lt_definitions.specs.Terms.{TermTree}
use Rattle.lt_definitions.specs.Typing.{Signature}
use Rattle.lt_definitions.specs.Rules.{Sequent, Rule, IsAlphaEqualOutcome, step}
use Rattle.lt_definitions.specs.Derivations.{rule_fault, term_fault}
use Rattle.lt_nameless.specs.NamelessRules.{nameless_step, nameless_fault}
use Rattle.lt_nameless.specs.AlphaEqualLines.{AreAlphaEqualSequents, AreAlphaEqualStatements, AreAlphaEqualLines}
use Rattle.lt_nameless.proofs.Outcomes.{outcomes_are_nameless}
use Rattle.lt_nameless.proofs.NamelessSteps.{step_is_nameless, faults_are_nameless}
use Rattle.lt_nameless.proofs.AlphaEqualLineLemmas.{equal-sequents, equal-statements, equal-lines}

pub step_respects_alpha : (sig : Signature) (named also_named : List (Chars × TermTree)) (done also_done : List Sequent)
    → (line also_line : Rule TermTree) → AreAlphaEqualStatements named also_named → AreAlphaEqualSequents done also_done
    → AreAlphaEqualLines line also_line → rule_fault sig (term_fault sig) line ≡ None
    → IsAlphaEqualOutcome (step sig named done line) (step sig also_named also_done also_line)
step_respects_alpha sig named also_named done also_done line also_line e f g t =
    let lines = equal-lines line also_line g in
    let sound : rule_fault sig (term_fault sig) also_line ≡ None = faults_are_nameless sig also_line
    ∙ ap (rule_fault sig (nameless_fault sig)) (sym lines) ∙ sym (faults_are_nameless sig line) ∙ t in
    (outcomes_are_nameless (step sig named done line) (step sig also_named also_done also_line)).1
    (step_is_nameless sig named done line t
    ∙ (λ i. nameless_step sig (equal-statements named also_named e i) (equal-sequents done also_done f i) (lines i))
    ∙ sym (step_is_nameless sig also_named also_done also_line sound))
