-- Types by number: a table of nodes whose arguments are numbers of the table.
pub use Rattle.lt_types.specs.FunctionTypes.{function_parts}
use Rattle.std.specs.Prelude.{◌≡◌, ℕ, suc, ◌<◌, List, [], ◌∷◌, ◌++◌, length, map, slice_get, slice_index_or, Bool, true, false, ◌||◌, nat_lt, Option, Some, None, codes, if◌then◌else◌}
use Rattle.std.specs.List.{list_all}
use Rattle.lt_types.specs.declared.ty.TyNode.{TyNode}
use Rattle.lt_types.specs.declared.ty.TyNode.TheVariants.{Var, Con}
use Rattle.lt_hol.specs.declared.recent_types.RecentType.{RecentType}
use Rattle.lt_definitions.specs.Types.{Chars, same_name, same_type, TypeTree, TypeTrees, type_variable, type_constructor, no_types, type_and, row}

-- the type of a number, and those of numbers
abbrev pub type_at : List TypeTree → ℕ → TypeTree
type_at ts i = slice_index_or ts i (type_variable [])

abbrev pub types_at : List TypeTree → List ℕ → List TypeTree
types_at ts ids = map (type_at ts) ids

-- the type that a node makes
abbrev pub made_of : List TypeTree → TyNode → TypeTree
made_of ts (Var x) = type_variable x
made_of ts (Con c ids) = type_constructor c (row (types_at ts ids))

-- these types, and then those of the nodes
abbrev pub types_after : List TypeTree → List TyNode → List TypeTree
types_after ts [] = ts
types_after ts (n ∷ ns) = types_after (ts ++ made_of ts n ∷ []) ns

-- whether the numbers are below a bound
abbrev pub all_below : ℕ → List ℕ → Bool
all_below n ids = list_all (λ i. nat_lt i n) ids

-- whether the arguments of a node are
abbrev pub is_below : ℕ → TyNode → Bool
is_below n (Var x) = true
is_below n (Con c ids) = all_below n ids

-- Each node stands behind its arguments.
abbrev pub IsGrounded : ℕ → List TyNode → Type 0
IsGrounded n [] = Unit {0}
IsGrounded n (m ∷ ns) = (is_below n m ≡ true) × IsGrounded (suc n) ns

-- No type has two numbers.
abbrev pub IsApart : List TypeTree → Type 0
IsApart ts = (i j : ℕ) → i < length ts → j < length ts → type_at ts i ≡ type_at ts j → i ≡ j

-- Each type has the number that is kept beside it.
abbrev pub AreRecent : List TypeTree → List RecentType → Type 0
AreRecent ts [] = Unit {0}
AreRecent ts (k ∷ ks) = (slice_get ts k.id ≡ Some k.ty) × AreRecent ts ks

pub record IsTable (nodes : List TyNode) (name : Chars) (kept : List RecentType) : Type 0 where
  pub grounded : IsGrounded 0 nodes
  pub apart : IsApart (types_after [] nodes)
  pub named : name ≡ codes "fun"
  pub recent : AreRecent (types_after [] nodes) kept

-- The types stay, and others may follow.
pub record Extends (old new : List TypeTree) : Type 0 where
  pub more : List TypeTree
  pub is : new ≡ old ++ more

-- whether a type is another, or a part of it
abbrev mutual
  pub is_part : TypeTree → TypeTree → Bool
  is_part t (type_variable x) = same_type t (type_variable x)
  is_part t (type_constructor c us) = same_type t (type_constructor c us) || is_part_of_some t us

  pub is_part_of_some : TypeTree → TypeTrees → Bool
  is_part_of_some t no_types = false
  is_part_of_some t (type_and u us) = is_part t u || is_part_of_some t us

-- The types stay, and what follows are parts of given types.
pub record ExtendsBy (types old new : List TypeTree) : Type 0 where
  pub more : List TypeTree
  pub is : new ≡ old ++ more
  pub parts : list_all (λ t. is_part_of_some t (row types)) more ≡ true

-- the two numbers of a list, if it has two
abbrev pub both : List ℕ → Option (ℕ × ℕ)
both (i ∷ j ∷ []) = Some (i, j)
both _ = None

-- the arguments of a node that makes a type of functions, whose name is given
abbrev pub node_parts : Chars → TyNode → Option (ℕ × ℕ)
node_parts f (Var x) = None
node_parts f (Con c ids) = if same_name c f then both ids else None
