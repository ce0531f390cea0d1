-- Lines whose terms are ids of a store.
use Rattle.std.specs.Prelude.{◌≡◌, ℕ, ◌<◌, List, [], ◌∷◌, length, None}
use Rattle.lt_definitions.specs.Typing.{Signature}
use Rattle.lt_definitions.specs.Rules.{Rule, rule_map, terms_of}
use Rattle.lt_definitions.specs.Derivations.{rule_fault}
use Rattle.lt_nameless.specs.Nameless.{Nameless}
use Rattle.lt_nameless.specs.NamelessRules.{nameless_fault}
use Rattle.lt_hol.specs.declared.line.Line.{Line}
use Rattle.lt_hol.specs.Lines.{as_rule}
use Rattle.lt_store.specs.declared.node.Node.{Node}
use Rattle.lt_store.specs.Trees.{tree_at}

-- a line with its terms
abbrev pub rule_at : List Node → Line → Rule Nameless
rule_at ns line = rule_map (tree_at ns) (as_rule line)

-- each of some ids is below a bound
abbrev pub AreBelow : ℕ → List ℕ → Type 0
AreBelow n [] = Unit {0}
AreBelow n (id ∷ ids) = (id < n) × AreBelow n ids

-- the ids of a line's terms are below a bound
abbrev pub LineIsIn : ℕ → Line → Type 0
LineIsIn n line = AreBelow n (terms_of (as_rule line))

-- A line's terms are in the store, and its types and terms have no fault.
pub record IsGoodLine (sig : Signature) (nodes : List Node) (line : Line) : Type 0 where
  pub within : LineIsIn (length nodes) line
  pub typed : rule_fault sig (nameless_fault sig) (rule_at nodes line) ≡ None
