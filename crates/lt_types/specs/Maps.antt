-- A map on type variables as a list of pairs.
use Rattle.std.specs.Prelude.{[], ◌∷◌, if◌then◌else◌}
use Rattle.lt_definitions.specs.Types.{Chars, same_name, TypeTree, TypeMap}

-- the pairs after the pair of a name was set: in its place, or at the end
abbrev pub with_pair : Chars → TypeTree → TypeMap → TypeMap
with_pair x t [] = (x, t) ∷ []
with_pair x t (p ∷ ps) = if same_name x p.0 then (p.0, t) ∷ ps else p ∷ with_pair x t ps
