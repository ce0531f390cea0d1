-- Terms as functions applied to variables, on the way to functions that are related.
-- Source: this project's own.
use Rattle.std.specs.Prelude.{◌≡◌, ℕ, ◌<◌, List, length, Some}
use Rattle.lt_definitions.specs.Types.{Chars, TypeTree}
use Rattle.lt_definitions.specs.Rules.{line_at}
use Rattle.lt_nameless.specs.Nameless.{Nameless, nameless_free, nameless_application}
use Rattle.lt_store.specs.Trees.{tree_at}
use Rattle.lt_kernel.specs.State.{State, sequents}
use Rattle.lt_programs.specs.TypedTerms.{IsOfType}
use Rattle.lt_derived.specs.Equations.{Equates, Stands}
use Rattle.lt_relating.specs.declared.expansion.Expansion.{Expansion}
use Rattle.lt_relating.specs.declared.expansion.Sides.{Sides}
use Rattle.lt_relating.specs.TypedRelations.{relation_type, related}
use Rattle.lt_relating.specs.RelatedSteps.{Binding, variables_related, closed, at_variable, expanded}

-- The function is the term closed over the variable, and the line says that applied to it it is the
-- term.
pub record IsExpansion (s : State) (e : Expansion) (x : Chars) (ty : TypeTree) (t : Nameless) : Type 0 where
  pub function : Stands s e.function (closed x ty t)
  pub variable : Stands s e.variable (nameless_free x ty)
  pub line : Equates s e.line (at_variable x ty t) t

-- H |- S f g, with a relation S between the types of f and g.
pub record IsRelatedLine (s : State) (relation f g line : ℕ) : Type 0 where
  pub from : TypeTree
  pub to : TypeTree
  pub hyps : List Nameless
  pub relation_within : relation < length s.nodes
  pub f_within : f < length s.nodes
  pub g_within : g < length s.nodes
  pub relation_typed : IsOfType s.signature (tree_at s.nodes relation) (relation_type from to)
  pub f_typed : IsOfType s.signature (tree_at s.nodes f) from
  pub g_typed : IsOfType s.signature (tree_at s.nodes g) to
  pub holds : line_at (sequents s) line ≡ Some (record {
    hyps = hyps;
    concl = related (tree_at s.nodes relation) (tree_at s.nodes f) (tree_at s.nodes g);
  })

-- The parts that were made, and the line on them.
pub record AreSides (s : State) (made : Sides) (b : Binding) (r f g : Nameless)
    (hyps : List Nameless) : Type 0 where
  pub related : Stands s made.related (variables_related b)
  pub image : Stands s made.image (closed b.image b.left f)
  pub given : Stands s made.given (closed b.given b.right g)
  pub line : line_at (sequents s) made.line ≡ Some (expanded b r f g hyps)

-- H |- S f g, and lines that say what f and g equal.
pub record Replaces (s : State) (relation image given line : ℕ) : Type 0 where
  pub from : TypeTree
  pub to : TypeTree
  pub f : Nameless
  pub g : Nameless
  pub k : Nameless
  pub m : Nameless
  pub hyps : List Nameless
  pub within : relation < length s.nodes
  pub typed : IsOfType s.signature (tree_at s.nodes relation) (relation_type from to)
  pub first : Equates s image k f
  pub second : Equates s given m g
  pub f_typed : IsOfType s.signature f from
  pub g_typed : IsOfType s.signature g to
  pub holds : line_at (sequents s) line
      ≡ Some (record { hyps = hyps; concl = related (tree_at s.nodes relation) f g })
