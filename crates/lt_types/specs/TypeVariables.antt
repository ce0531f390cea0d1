-- The variables of types, and names that are longer than each of them.
use Rattle.std.specs.Prelude.{ℕ, zero, suc, List, [], ◌∷◌, Bool, true, ◌&&◌, not, max, length, replicate}
use Rattle.lt_definitions.specs.Types.{Chars, has_name, TypeTree, TypeTrees, type_variable, type_constructor, no_types, type_and}
use Rattle.lt_types.specs.declared.ty.TyNode.{TyNode}
use Rattle.lt_types.specs.declared.ty.TyNode.TheVariants.{Var, Con}

-- whether no variable of a type is one of the names
abbrev mutual
  pub is_clear : List Chars → TypeTree → Bool
  is_clear names (type_variable a) = not (has_name a names)
  is_clear names (type_constructor c ts) = are_clear names ts

  pub are_clear : List Chars → TypeTrees → Bool
  are_clear names no_types = true
  are_clear names (type_and t ts) = is_clear names t && are_clear names ts

-- the same of a node
abbrev pub is_node_clear : List Chars → TyNode → Bool
is_node_clear names (Var a) = not (has_name a names)
is_node_clear names (Con c ids) = true

-- the greatest length of these names
abbrev pub longest_name : List Chars → ℕ
longest_name [] = 0
longest_name (a ∷ names) = max (length a) (longest_name names)

-- the greatest length of a type's variables
abbrev mutual
  pub longest_variable : TypeTree → ℕ
  longest_variable (type_variable a) = length a
  longest_variable (type_constructor c ts) = longest_in ts

  pub longest_in : TypeTrees → ℕ
  longest_in no_types = 0
  longest_in (type_and t ts) = max (longest_variable t) (longest_in ts)

-- the length of a node's variable
abbrev pub variable_length : TyNode → ℕ
variable_length (Var a) = length a
variable_length (Con c ids) = 0

-- so many names of the letter t, of the lengths k + 1, k + 2, ..
abbrev pub long_names : ℕ → ℕ → List Chars
long_names k zero = []
long_names k (suc n) = replicate (suc k) 116 ∷ long_names (suc k) n
