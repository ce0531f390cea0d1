-- Names that aren't among those that are allowed.
use Rattle.std.specs.Prelude.{List, [], ◌∷◌, not, Option, Some, None}
use Rattle.std.specs.List.{find}
use Rattle.std.specs.Option.{option_or}
use Rattle.lt_definitions.specs.Types.{Chars, has_name}
use Rattle.lt_terms.specs.declared.term.TermNode.{TermNode}
use Rattle.lt_terms.specs.declared.term.TermNode.TheVariants.{Free, Bound, Const, App, Lam}
use Rattle.lt_terms.specs.Numberings.{node_names}

-- the first of the names that isn't allowed
abbrev pub first_loose : List Chars → List Chars → Option Chars
first_loose allowed names = find (λ a. not (has_name a allowed)) names

-- the first in a node's own types
abbrev pub loose_in_node : List Chars → TermNode → Option Chars
loose_in_node allowed n = first_loose allowed (node_names n)

-- what an application makes of those of its function and its argument, the last one first
abbrev pub joined_firsts : List (Option Chars) → List (Option Chars)
joined_firsts (a ∷ f ∷ before) = option_or f a ∷ before
joined_firsts _ = []

-- what an abstraction makes of that of its binder's type and that of its body
abbrev pub covered_firsts : Option Chars → List (Option Chars) → List (Option Chars)
covered_firsts own (b ∷ before) = option_or own b ∷ before
covered_firsts own [] = []

-- what a node makes of those of the terms before it, the last term first
abbrev pub loose_grow : List Chars → List (Option Chars) → TermNode → List (Option Chars)
loose_grow allowed before (App i j) = joined_firsts before
loose_grow allowed before (Lam x ty i) = covered_firsts (loose_in_node allowed (Lam x ty i)) before
loose_grow allowed before n = loose_in_node allowed n ∷ before
