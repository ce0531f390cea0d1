-- Sequents, named statements and lines that are alpha-equal one by one.
-- Source: this project's own.
use Rattle.std.specs.Prelude.{◌≡◌, List, [], ◌∷◌}
use Rattle.lt_definitions.specs.Types.{Chars}
use Rattle.lt_definitions.specs.Terms.{TermTree}
use Rattle.lt_definitions.specs.Alpha.{IsAlphaEqual}
use Rattle.lt_definitions.specs.Rules.{Sequent, AreAlphaEqual, Rule, rule_map, terms_of}

-- Sequents with alpha-equal hypotheses, in one order, and alpha-equal conclusions.
abbrev pub AreAlphaEqualSequents : List Sequent → List Sequent → Type 0
AreAlphaEqualSequents [] [] = Unit {0}
AreAlphaEqualSequents (s ∷ ss) (u ∷ us) =
    AreAlphaEqual s.hyps u.hyps × IsAlphaEqual s.concl u.concl × AreAlphaEqualSequents ss us
AreAlphaEqualSequents _ _ = ⊥

-- Alpha-equal statements under the same labels, in one order.
abbrev pub AreAlphaEqualStatements : List (Chars × TermTree) → List (Chars × TermTree) → Type 0
AreAlphaEqualStatements [] [] = Unit {0}
AreAlphaEqualStatements (p ∷ ps) (q ∷ qs) =
    (p.0 ≡ q.0) × IsAlphaEqual p.1 q.1 × AreAlphaEqualStatements ps qs
AreAlphaEqualStatements _ _ = ⊥

-- a rule without its terms
abbrev pub without_terms : {T : Type 0} → Rule T → Rule (Unit {0})
without_terms line = rule_map (λ t. tt) line

-- Lines of one rule with the same types, names and numbers, and alpha-equal terms.
abbrev pub AreAlphaEqualLines : Rule TermTree → Rule TermTree → Type 0
AreAlphaEqualLines line also =
    (without_terms line ≡ without_terms also) × AreAlphaEqual (terms_of line) (terms_of also)
