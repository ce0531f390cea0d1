-- How the only map that can match is read off.
use Rattle.std.specs.Prelude.{◌≡◌, ℕ, suc, List, ◌<◌, ◌≤◌, [], ◌∷◌, ◌++◌, map, length, take, is_some, if◌then◌else◌}
use Rattle.lt_definitions.specs.Types.{TypeTree, TypeMap, type_variable, found, type_names, type_instance}
use Rattle.lt_types.specs.declared.ty.TyNode.{TyNode}
use Rattle.lt_types.specs.Layout.{forest}

-- the first pair of each name, behind those that are there already
abbrev pub firsts_behind : TypeMap → TypeMap → TypeMap
firsts_behind done [] = done
firsts_behind done (p ∷ ps) = firsts_behind (if is_some (found p.0 done) then done else done ++ p ∷ []) ps

-- The places of a pattern's variables, from the left, each with a type: that of every map that matches.
pub record AreOccurrences (pattern ty : TypeTree) (pairs : TypeMap) : Type 0 where
  pub names : map (λ p. p.0) pairs ≡ type_names pattern
  pub types : (m : TypeMap) → type_instance m pattern ≡ ty → map (λ p. p.1) pairs ≡ map (λ p. type_instance m (type_variable p.0)) pairs

-- The last type that the nodes before a place make begins at another place.
pub record BeginsAt (nodes : List TyNode) (end start : ℕ) : Type 0 where
  pub before : start < end
  pub one : suc (length (forest [] (take start nodes))) ≡ length (forest [] (take end nodes))
  pub inside : (k : ℕ) → start < k → k ≤ end → length (forest [] (take start nodes)) < length (forest [] (take k nodes))
