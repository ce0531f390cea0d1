-- What a store knows of a term beside its node.
use Rattle.std.specs.Prelude.{◌≡◌, ℕ, ◌<◌, ◌≤◌, List, length, slice_get, Some}
use Rattle.lt_nameless.specs.Nameless.{Nameless, IsWhole}
use Rattle.lt_store.specs.declared.node.Node.{Node}
use Rattle.lt_store.specs.declared.bounds.Bounds.{Bounds}
use Rattle.lt_store.specs.declared.change.Change.{Change}
use Rattle.lt_store.specs.declared.change.Change.TheVariants.{Open, Close, Replace, Types}
use Rattle.lt_store.specs.declared.change.Sought.{Sought}
use Rattle.lt_store.specs.declared.change.Sought.TheVariants.{Variable, Loose}
use Rattle.lt_store.specs.Trees.{tree_at}
use Rattle.lt_store.specs.Passes.{longest_free}

-- Under so many binders each bound name has its binder, and the longest name of a free variable is so long.
pub record IsBounded (t : Nameless) (b : Bounds) : Type 0 where
  pub binders : IsWhole b.binders t
  pub names : longest_free t ≡ b.names

-- These are bounds of the terms of the first ids.
abbrev pub AreBounded : List Node → List Bounds → Type 0
AreBounded ns bs = (i : ℕ) (b : Bounds) → slice_get bs i ≡ Some b → (i < length ns) × IsBounded (tree_at ns i) b

-- A term of these bounds is too small to be changed under d binders: no bound name belongs to a binder further out,
-- or no name of a free variable is as long as the variable's.
abbrev pub IsUnchanged : Change → Bounds → ℕ → Type 0
IsUnchanged (Open by) b d = b.binders ≤ d
IsUnchanged (Close x ty) b d = b.names < length x.now
IsUnchanged (Replace x ty by) b d = b.names < length x.now
IsUnchanged (Types m) b d = ⊥

-- What is looked for isn't in a term of these bounds.
abbrev pub IsAbsent : Sought → Bounds → ℕ → Type 0
IsAbsent (Variable x ty) b d = b.names < length x.now
IsAbsent Loose b d = b.binders ≤ d
