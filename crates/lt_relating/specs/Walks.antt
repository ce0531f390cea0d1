-- Parts of a statement over a proof, and a derivation that is on its way along them.
-- Source: this project's own.
use Rattle.std.specs.Prelude.{◌≡◌, ℕ, List, [], ◌∷◌, map, length, Some, Result, Ok, Err}
use Rattle.lt_definitions.specs.Rules.{line_at}
use Rattle.lt_nameless.specs.Nameless.{NamelessSequent}
use Rattle.lt_nameless.specs.NamelessRules.{NamelessOutcome}
use Rattle.lt_store.specs.declared.node.Node.{Node}
use Rattle.lt_store.specs.Trees.{tree_at}
use Rattle.lt_store.specs.Typed.{IsTyped}
use Rattle.lt_kernel.specs.declared.rule_fault.RuleFault.{RuleFault}
use Rattle.lt_kernel.specs.State.{State, sequents, statements}
use Rattle.lt_kernel.specs.Growing.{Carries, IsSound}
use Rattle.lt_kernel.specs.Reaching.{Reaches}
use Rattle.lt_relating.specs.declared.part.RelatorLabels.{RelatorLabels}
use Rattle.lt_relating.specs.declared.part.StatementPart.{StatementPart}
use Rattle.lt_relating.specs.declared.part.StatementPart.TheVariants.{Line, Name, Application, Abstraction}
use Rattle.lt_relating.specs.Pairs.{binding_of, IsPair}
use Rattle.lt_relating.specs.Parts.{Laws, Part, by_line, by_name, by_application, by_abstraction, walked}

-- what a part stands for
abbrev pub part_of : List Node → StatementPart → Part
part_of ns (Line n) = by_line n
part_of ns (Name p) = by_name (tree_at ns p)
part_of ns Application = by_application
part_of ns (Abstraction v) = by_abstraction (binding_of ns v)

abbrev pub parts_at : List Node → List StatementPart → List Part
parts_at ns parts = map (part_of ns) parts

-- the named statements of a proof, and the labels of the two laws
abbrev pub laws_of : State → RelatorLabels → Laws
laws_of s labels = record {
  named = statements s;
  application = labels.application;
  abstraction = labels.abstraction;
}

-- A formula is a typed term, and a pair of variables has a relation between their types.
abbrev pub IsPart : State → StatementPart → Type 0
IsPart s (Line n) = Unit {0}
IsPart s (Name p) = IsTyped s.signature s.nodes p
IsPart s Application = Unit {0}
IsPart s (Abstraction v) = IsPair s v

-- The lines have these sequents.
abbrev pub AreHeld : State → List ℕ → List NamelessSequent → Type 0
AreHeld s [] [] = Unit {0}
AreHeld s (n ∷ ns) (q ∷ qs) = (line_at (sequents s) n ≡ Some q) × AreHeld s ns qs
AreHeld s [] (q ∷ qs) = ⊥
AreHeld s (n ∷ ns) [] = ⊥

abbrev pub AreLines : State → List ℕ → Type 0
AreLines s ns = (qs : List NamelessSequent) × AreHeld s ns qs

-- The lines, the last one first, have sequents from which the parts that are left give what the
-- whole gives, over the proof as it was at first.
pub record IsUnderway (now first : State) (labels : RelatorLabels) (lines : List ℕ)
    (rest : List Part) (whole : NamelessOutcome) : Type 0 where
  pub qs : List NamelessSequent
  pub held : AreHeld now lines qs
  pub goes : whole ≡ walked first.signature (laws_of first labels) (sequents first) qs rest

-- A derivation is on its way, and this part comes next. At first there were so many lines.
pub record IsAt (now : State) (labels : RelatorLabels) (count : ℕ) (lines : List ℕ)
    (p : StatementPart) : Type 0 where
  pub first : State
  pub rest : List Part
  pub whole : NamelessOutcome
  pub sound : IsSound first
  pub carries : Carries first now
  pub part : IsPart first p
  pub counted : count ≡ length (sequents first)
  pub along : IsUnderway now first labels lines (part_of first.nodes p ∷ rest) whole

-- It goes on by the line answered, or the whole gives none.
abbrev pub LeadsOn : State → State → RelatorLabels → List ℕ → List Part → NamelessOutcome
    → Result ℕ RuleFault → Type 0
LeadsOn now first labels lines rest whole (Ok n) =
    IsUnderway now first labels (n ∷ lines) rest whole
LeadsOn now first labels lines rest whole (Err e) = Reaches now (Err e) whole
