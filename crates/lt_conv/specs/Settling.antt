-- Nodes whose parts were converted.
-- Source: this project's own.
use Rattle.std.specs.Prelude.{◌≡◌, ℕ, List, Option}
use Rattle.lt_definitions.specs.Types.{Chars, TypeTree}
use Rattle.lt_nameless.specs.Nameless.{Nameless, nameless_application}
use Rattle.lt_store.specs.Trees.{tree_at}
use Rattle.lt_store.specs.Typed.{IsTyped}
use Rattle.lt_kernel.specs.State.{State, statements}
use Rattle.lt_derived.specs.Equations.{Equates}
use Rattle.lt_conv.specs.Everywhere.{everywhere}
use Rattle.lt_conv.specs.Places.{IsBodyOf}

-- An application, with lines that equate its head and its argument with what becomes of them.
pub record HasParts (gives : List (Chars × Nameless) → Nameless → Option Nameless) (s : State) (id k n : ℕ) : Type 0 where
  pub named : List (Chars × Nameless)
  pub same : statements s ≡ named
  pub typed : IsTyped s.signature s.nodes id
  pub g : Nameless
  pub a : Nameless
  pub is : tree_at s.nodes id ≡ nameless_application g a
  pub head : Equates s k g (everywhere (gives named) g)
  pub argument : Equates s n a (everywhere (gives named) a)

-- An abstraction, with a line on its body, which was opened by a new variable.
pub record HasBody (gives : List (Chars × Nameless) → Nameless → Option Nameless) (s : State) (id : ℕ) (x : Chars) (ty : TypeTree) (n : ℕ) : Type 0 where
  pub named : List (Chars × Nameless)
  pub same : statements s ≡ named
  pub t : Nameless
  pub body : IsBodyOf s id x ty t
  pub line : Equates s n t (everywhere (gives named) t)
