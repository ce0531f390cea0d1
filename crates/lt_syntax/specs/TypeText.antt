-- What a node of a type shows by itself, and the rows of arguments that it leaves to show.
use Rattle.std.specs.Prelude.{ℕ, List, [], ◌∷◌, ◌++◌, codes, map}
use Rattle.std.specs.Borrow.{Bor}
use Rattle.lt_types.specs.declared.ty.TyNode.{TyNode}
use Rattle.lt_types.specs.declared.ty.TyNode.TheVariants.{Var, Con}

abbrev pub type_front : TyNode → List ℕ
type_front (Var a) = codes "'" ++ a
type_front (Con c []) = c
type_front (Con c (i ∷ places)) = codes "(" ++ c

abbrev pub argument_rows : TyNode → List (List ℕ)
argument_rows (Var a) = []
argument_rows (Con c []) = []
argument_rows (Con c (i ∷ places)) = (i ∷ places) ∷ []

-- what references point to
abbrev pub targets : List (Bor (List ℕ)) → List (List ℕ)
targets rows = map (λ (r : Bor (List ℕ)). r.now) rows
