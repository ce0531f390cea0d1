-- The opening of an abstraction.
use Rattle.std.specs.Prelude.{ℕ, List, ◌∷◌, Bool, true, false, nat_eq, if◌then◌else◌, Option, Some, None}
use Rattle.lt_definitions.specs.Terms.{TermTree, abstraction}
use Rattle.lt_definitions.specs.Binding.{opened}
use Rattle.lt_terms.specs.declared.term.TermNode.{TermNode}
use Rattle.lt_terms.specs.declared.term.TermNode.TheVariants.{Lam}
use Rattle.lt_terms.specs.declared.bound_names.Binder.{Binder}
use Rattle.lt_terms.specs.Layout.{grow}

-- the body of an abstraction, opened by a term
abbrev pub opening : TermTree → TermTree → Option TermTree
opening (abstraction x ty b) by = Some (opened x by b)
opening _ by = None

-- whether a term is an abstraction
abbrev pub is_abstraction : TermTree → Bool
is_abstraction (abstraction x ty b) = true
is_abstraction _ = false

-- whether a node is that of an abstraction
abbrev pub is_lambda : TermNode → Bool
is_lambda (Lam x ty b) = true
is_lambda _ = false

-- whether a binder stands at a place
abbrev pub is_at : ℕ → Option Binder → Bool
is_at place (Some b) = nat_eq b.place place
is_at place None = false

-- what a node makes of the terms before it, where a term is put for the bound names of the binder at a place
abbrev pub grow_open : ℕ → TermTree → List TermTree → TermNode → Option Binder → List TermTree
grow_open place by before n b = if is_at place b then by ∷ before else grow before n
