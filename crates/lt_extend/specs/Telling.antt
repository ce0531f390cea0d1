-- Lines of a kernel, told as lines over terms.
use Rattle.std.specs.Prelude.{◌≡◌, ℕ, ◌<◌, List, [], map, take, length, true, get_or}
use Rattle.lt_definitions.specs.Terms.{TermTree, bound_name}
use Rattle.lt_definitions.specs.Rules.{Rule}
use Rattle.lt_nameless.specs.Nameless.{Nameless, nameless}
use Rattle.lt_nameless.specs.NamelessRules.{nameless_rule}
use Rattle.lt_terms.specs.declared.term.TermNode.{TermNode}
use Rattle.lt_hol.specs.declared.line.Line.{Line}
use Rattle.lt_hol.specs.declared.lines.Lines.{Lines}
use Rattle.lt_hol.specs.Lines.{trees, is_within, rule_of, rules_of}
use Rattle.lt_store.specs.declared.node.Node.{Node}
use Rattle.lt_store.specs.Trees.{tree_at}
use Rattle.lt_kernel.specs.Lines.{rule_at}
use Rattle.lt_kernel.specs.State.{State}

-- the first so many lines of a kernel, as rules over terms without binder names
abbrev pub rules_at : State → ℕ → List (Rule Nameless)
rules_at s count = map (λ step. rule_at s.nodes step.line) (take count s.steps)

-- lines over terms, without binder names
abbrev pub rules_in : Lines → List (Rule Nameless)
rules_in lines = map nameless_rule (rules_of lines.nodes lines.lines)

-- Nodes may have been added; the lines are what they were.
pub record KeepsRules (old new : Lines) : Type 0 where
  pub lines : new.lines ≡ old.lines
  pub rules : rules_of new.nodes new.lines ≡ rules_of old.nodes old.lines

-- A term stands at the place.
pub record IsPlaced (nodes : List TermNode) (place : ℕ) (t : TermTree) : Type 0 where
  pub within : place < length nodes
  pub is : get_or (trees nodes) place (bound_name []) ≡ t

-- What stands at the place is what the id stands for, without binder names.
pub record IsTold (nodes : List TermNode) (stored : List Node) (id place : ℕ) : Type 0 where
  pub within : place < length nodes
  pub is : nameless [] (get_or (trees nodes) place (bound_name [])) ≡ tree_at stored id

-- The line over places is the line over ids, without binder names.
pub record IsToldLine (nodes : List TermNode) (stored : List Node) (line told : Line) : Type 0 where
  pub within : is_within (length nodes) told ≡ true
  pub is : nameless_rule (rule_of (trees nodes) told) ≡ rule_at stored line
