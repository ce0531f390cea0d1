-- Pairs of variables over a proof's terms.
-- Source: this project's own.
use Rattle.std.specs.Prelude.{◌≡◌, ◌<◌, List, length, None}
use Rattle.lt_definitions.specs.Typing.{type_fault}
use Rattle.lt_store.specs.declared.node.Node.{Node}
use Rattle.lt_store.specs.Trees.{tree_at}
use Rattle.lt_kernel.specs.State.{State}
use Rattle.lt_programs.specs.TypedTerms.{IsOfType}
use Rattle.lt_relating.specs.declared.variable_pair.VariablePair.{VariablePair}
use Rattle.lt_relating.specs.TypedRelations.{relation_type}
use Rattle.lt_relating.specs.RelatedSteps.{Binding}

-- what a pair of variables stands for
abbrev pub binding_of : List Node → VariablePair → Binding
binding_of ns v = record {
  image = v.image;
  left = v.left;
  given = v.given;
  right = v.right;
  relation = tree_at ns v.relation;
}

-- The relation is a relation between the types of the variables, which have no fault.
pub record IsPair (s : State) (v : VariablePair) : Type 0 where
  pub within : v.relation < length s.nodes
  pub typed : IsOfType s.signature (tree_at s.nodes v.relation) (relation_type v.left v.right)
  pub left : type_fault s.signature v.left ≡ None
  pub right : type_fault s.signature v.right ≡ None
