-- The tasks of reading a type back from its number.
use Rattle.std.specs.Prelude.{ℕ, List, [], ◌∷◌}
use Rattle.lt_types.specs.declared.ty.TyNode.{TyNode}
use Rattle.lt_types.specs.declared.ty.TyNode.TheVariants.{Var, Con}
use Rattle.lt_hol.specs.declared.read_type.Making.{Making}
use Rattle.lt_hol.specs.declared.read_type.Making.TheVariants.{Whole}

-- the numbers of a node's arguments
abbrev pub numbers_of : TyNode → List ℕ
numbers_of (Var x) = []
numbers_of (Con c ids) = ids

-- types to be made
abbrev pub wholes : List ℕ → List Making
wholes [] = []
wholes (i ∷ ids) = Whole i ∷ wholes ids
