-- Places of terms among nodes, the newest last.
use Rattle.std.specs.Prelude.{◌≡◌, ℕ, List, [], ◌∷◌, map, reverse, length, Option, Some, None, Bool, true, nat_lt, get_or}
use Rattle.std.specs.List.{list_all}
use Rattle.lt_definitions.specs.Terms.{TermTree, bound_name}
use Rattle.lt_terms.specs.declared.term.TermNode.{TermNode}
use Rattle.lt_hol.specs.declared.line.Line.{Line}
use Rattle.lt_hol.specs.Lines.{trees, is_within}

-- the term at a place
abbrev pub term_at : List TermNode → ℕ → TermTree
term_at nodes place = get_or (trees nodes) place (bound_name [])

-- the terms at places, the newest first
abbrev pub terms_at : List TermNode → List ℕ → List TermTree
terms_at nodes places = map (term_at nodes) (reverse places)

-- whether each is a place of a node
abbrev pub are_places : List TermNode → List ℕ → Bool
are_places nodes places = list_all (λ p. nat_lt p (length nodes)) places

-- The place is one of a node, if there is one.
abbrev pub IsPlaceWithin : List TermNode → Option ℕ → Type 0
IsPlaceWithin nodes None = Unit {0}
IsPlaceWithin nodes (Some p) = are_places nodes (p ∷ []) ≡ true

-- The line speaks of places of nodes, if there is one.
abbrev pub IsLineWithin : List TermNode → Option Line → Type 0
IsLineWithin nodes None = Unit {0}
IsLineWithin nodes (Some l) = is_within (length nodes) l ≡ true
