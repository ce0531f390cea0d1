-- What the nodes of a term make in a store, one after another.
use Rattle.std.specs.Prelude.{ℕ, ◌≤◌, List, [], ◌∷◌, length, reverse, Option, Some, None, IsSome}
use Rattle.lt_definitions.specs.Types.{TypeTree}
use Rattle.lt_nameless.specs.Nameless.{Nameless, nameless_free, nameless_bound, nameless_constant, nameless_application, nameless_abstraction}
use Rattle.lt_terms.specs.declared.bound_names.Binder.{Binder}
use Rattle.lt_terms.specs.declared.term.TermNode.{TermNode}
use Rattle.lt_terms.specs.declared.term.TermNode.TheVariants.{Free, Bound, Const, App, Lam}
use Rattle.lt_store.specs.declared.node.Node.{Node}
use Rattle.lt_store.specs.Trees.{trees}

-- the terms of ids, the last one first
abbrev pub stack : List Node → List ℕ → List Nameless
stack ns ids = reverse (trees ns ids)

-- The last two of some terms, the last one first, become an application; the last one becomes an abstraction.
abbrev pub joined : List Nameless → List Nameless
joined (a ∷ f ∷ before) = nameless_application f a ∷ before
joined _ = []

abbrev pub covered : TypeTree → List Nameless → List Nameless
covered ty (b ∷ before) = nameless_abstraction ty b ∷ before
covered ty [] = []

-- the number of binders between a bound name and its own
abbrev pub index_of : Option Binder → ℕ
index_of (Some b) = b.index
index_of None = 0

-- what a node, with its binder if it is a bound name, makes of the terms before it, the last one first
abbrev pub grown : List Nameless → TermNode → Option Binder → List Nameless
grown before (Free x t) b = nameless_free x t ∷ before
grown before (Bound x) b = nameless_bound (index_of b) ∷ before
grown before (Const c ts) b = nameless_constant c ts ∷ before
grown before (App i j) b = joined before
grown before (Lam x t i) b = covered t before

-- A node has its children before it, and a bound name has its binder.
abbrev pub HasParts : List Nameless → TermNode → Option Binder → Type 0
HasParts before (Free x t) b = Unit {0}
HasParts before (Bound x) b = IsSome b
HasParts before (Const c ts) b = Unit {0}
HasParts before (App i j) b = 2 ≤ length before
HasParts before (Lam x t i) b = 1 ≤ length before
