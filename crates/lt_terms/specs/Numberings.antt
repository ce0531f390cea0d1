-- Type variables that are being numbered.
use Rattle.std.specs.Prelude.{◌≡◌, ℕ, List, [], ◌∷◌}
use Rattle.lt_definitions.specs.Types.{Chars, names_joined, TypeMap, row, type_names, types_names}
use Rattle.lt_definitions.specs.Alpha.{numbered}
use Rattle.lt_types.specs.declared.ty.TyNode.{TyNode}
use Rattle.lt_types.specs.declared.ty.TyNode.TheVariants.{Var, Con}
use Rattle.lt_terms.specs.declared.term.TermNode.{TermNode}
use Rattle.lt_terms.specs.declared.term.TermNode.TheVariants.{Free, Bound, Const, App, Lam}

-- the type variable of a type's node
abbrev pub variable_names : TyNode → List Chars
variable_names (Var x) = x ∷ []
variable_names (Con c ids) = []

-- the type variables of a term's node, those of its parts left out
abbrev pub node_names : TermNode → List Chars
node_names (Free x ty) = type_names ty
node_names (Bound x) = []
node_names (Const c ts) = types_names (row ts)
node_names (App f a) = []
node_names (Lam x ty b) = type_names ty

-- the places of a node's parts, the first part last
abbrev pub parts : TermNode → List ℕ
parts (App f a) = a ∷ f ∷ []
parts (Lam x ty b) = b ∷ []
parts _ = []

-- some type variables are numbered, and together with those that come later they are all
pub record IsUnderway (map : TypeMap) (later all : List Chars) : Type 0 where
  pub names : List Chars
  pub is : map ≡ numbered 1 names
  pub joined : names_joined names later ≡ all
