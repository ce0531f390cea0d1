-- The constructors and variables of types.
use Rattle.std.specs.Prelude.{Option, Some, None}
use Rattle.lt_definitions.specs.Types.{Chars, TypeTree, type_variable, type_constructor}
use Rattle.lt_types.specs.declared.ty.TyNode.{TyNode}
use Rattle.lt_types.specs.declared.ty.TyNode.TheVariants.{Var, Con}

-- the constructor of a type that is no variable
abbrev pub constructor_of : TypeTree → Option Chars
constructor_of (type_variable a) = None
constructor_of (type_constructor c ts) = Some c

-- the same of a node
abbrev pub constructor_at : TyNode → Option Chars
constructor_at (Var a) = None
constructor_at (Con c ids) = Some c

-- the name of a type that is a variable
abbrev pub variable_of : TypeTree → Option Chars
variable_of (type_variable a) = Some a
variable_of (type_constructor c ts) = None

-- the same of a node
abbrev pub variable_at : TyNode → Option Chars
variable_at (Var a) = Some a
variable_at (Con c ids) = None
