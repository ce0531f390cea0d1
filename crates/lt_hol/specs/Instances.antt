-- Declared types with types put for their variables.
use Rattle.std.specs.Prelude.{◌≡◌, ℕ, List, [], ◌∷◌, ◌++◌, length, slice_get, nat_eq, true, false, Option, Some, None}
use Rattle.std.specs.List.{zip}
use Rattle.lt_types.specs.declared.ty.TyNode.{TyNode}
use Rattle.lt_types.specs.declared.ty.TyNode.TheVariants.{Var, Con}
use Rattle.lt_types.specs.Layout.{grow}
use Rattle.lt_definitions.specs.Types.{Chars, TypeTree, found, type_variables}
use Rattle.lt_definitions.specs.Typing.{at_types}
use Rattle.lt_hol.specs.TypeTables.{type_at}

-- The number is that of the declared type at the types; there is none where they are not as many as its variables.
abbrev pub IsInstance : List TypeTree → TypeTree → List TypeTree → Option ℕ → Type 0
IsInstance table declared types None = nat_eq (length types) (length (type_variables declared)) ≡ false
IsInstance table declared types (Some id) = (nat_eq (length types) (length (type_variables declared)) ≡ true) × (slice_get table id ≡ Some (at_types declared types))

-- the number that is put for a node, if it is a variable that has one
abbrev pub argument_of : List Chars → List ℕ → TyNode → Option ℕ
argument_of names args (Var x) = found x (zip names args)
argument_of names args (Con c ids) = None

-- the types before a node, and that of a number or else what the node makes of them
abbrev pub grown_by : List TypeTree → List TypeTree → TyNode → Option ℕ → List TypeTree
grown_by table before node None = grow before node
grown_by table before node (Some id) = before ++ type_at table id ∷ []
