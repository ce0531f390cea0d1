-- The binders of bound names, told by their places among the nodes of a term.
use Rattle.std.specs.Prelude.{ℕ, suc, ◌+◌, List, [], ◌∷◌, ◌++◌, Bool, true, false, ◌||◌, Option, Some, None, if◌then◌else◌}
use Rattle.lt_definitions.specs.Types.{Chars, same_name}
use Rattle.lt_definitions.specs.Terms.{TermTree, free_variable, bound_name, constant, application, abstraction}
use Rattle.lt_terms.specs.declared.bound_names.Binder.{Binder}
use Rattle.lt_terms.specs.declared.term.TermNode.{TermNode}
use Rattle.lt_terms.specs.declared.term.TermNode.TheVariants.{Bound}
use Rattle.lt_terms.specs.Layout.{under}

-- binders with their places, the innermost first
abbrev pub Places : Type 0
Places = List (Chars × ℕ)

-- one binder further in
abbrev pub further : Option Binder → Option Binder
further None = None
further (Some b) = Some (record { place = b.place; index = suc b.index })

-- the innermost binder of a name
abbrev pub binder_of : Chars → Places → Option Binder
binder_of x [] = None
binder_of x (b ∷ bs) = if same_name x b.0 then Some (record { place = b.1; index = 0 }) else further (binder_of x bs)

-- for each node of a term that lies from a place on, its binder, if it is a bound name that has one
abbrev pub binders_in : ℕ → Places → TermTree → List (Option Binder)
binders_in from around (free_variable x t) = None ∷ []
binders_in from around (bound_name x) = binder_of x around ∷ []
binders_in from around (constant c ts) = None ∷ []
binders_in from around (application f a) = binders_in from around f ++ (binders_in (from + (under f + 1)) around a ++ None ∷ [])
binders_in from around (abstraction x t b) = binders_in from ((x, from + (under b + 1)) ∷ around) b ++ None ∷ []

-- whether a term has a bound name
abbrev pub has_bound_name : TermTree → Bool
has_bound_name (free_variable x t) = false
has_bound_name (bound_name x) = true
has_bound_name (constant c ts) = false
has_bound_name (application f a) = has_bound_name f || has_bound_name a
has_bound_name (abstraction x t b) = has_bound_name b

-- whether a node is one
abbrev pub is_bound_name : TermNode → Bool
is_bound_name (Bound x) = true
is_bound_name _ = false
