-- What is wrong with a node of a type.
use Rattle.std.specs.Prelude.{length, Option, None}
use Rattle.lt_types.specs.declared.ty.TyNode.{TyNode}
use Rattle.lt_types.specs.declared.ty.TyNode.TheVariants.{Var, Con}
use Rattle.lt_definitions.specs.Types.{found}
use Rattle.lt_definitions.specs.Typing.{Signature, Fault, constructor_fault}

-- the first fault of a node, arguments left aside
abbrev pub node_fault : Signature → TyNode → Option Fault
node_fault sig (Var x) = None
node_fault sig (Con c ids) = constructor_fault c (length ids) (found c sig.types)
