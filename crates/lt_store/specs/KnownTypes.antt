-- The type of a term that has one, which the head alone tells.
use Rattle.std.specs.Prelude.{ℕ, List, [], ◌∷◌, Option, Some, None, slice_index_or}
use Rattle.std.specs.Result.{result_unwrap_or}
use Rattle.lt_definitions.specs.Types.{TypeTree, bool, fun, found}
use Rattle.lt_definitions.specs.Typing.{Signature, constant_type}
use Rattle.lt_types.specs.FunctionTypes.{function_parts}
use Rattle.lt_nameless.specs.Nameless.{Nameless, nameless_free, nameless_bound, nameless_loose, nameless_constant, nameless_application, nameless_abstraction}
use Rattle.lt_store.specs.declared.heads.TypeStep.{TypeStep}
use Rattle.lt_store.specs.declared.heads.TypeStep.TheVariants.{Apply, Cover}

-- what a type of functions goes to, and another type itself
abbrev pub second_or : Option (TypeTree × TypeTree) → TypeTree → TypeTree
second_or None ty = ty
second_or (Some p) ty = p.1

abbrev pub result_part : TypeTree → TypeTree
result_part ty = second_or (function_parts ty) ty

-- the type of a term under binders of these types, the innermost first, where it has one
abbrev pub head_type : Signature → List TypeTree → Nameless → TypeTree
head_type sig tys (nameless_free x ty) = ty
head_type sig tys (nameless_bound i) = slice_index_or tys i bool
head_type sig tys (nameless_loose x) = bool
head_type sig tys (nameless_constant c ts) = result_unwrap_or (constant_type sig c ts (found c sig.consts)) bool
head_type sig tys (nameless_application f a) = result_part (head_type sig tys f)
head_type sig tys (nameless_abstraction ty b) = fun ty (head_type sig (ty ∷ tys) b)

-- the type of the whole from that of the part into which a step goes, and so for steps, the last one first
abbrev pub outward : TypeStep → TypeTree → TypeTree
outward Apply ty = result_part ty
outward (Cover from) ty = fun from ty

abbrev pub outwards : List TypeStep → TypeTree → TypeTree
outwards [] ty = ty
outwards (s ∷ ss) ty = outwards ss (outward s ty)

-- the type of the whole from a part under these binders
abbrev pub whole_type : Signature → List TypeStep → List TypeTree → Nameless → TypeTree
whole_type sig steps tys t = outwards steps (head_type sig tys t)

-- A term with no part that tells its type.
abbrev pub IsLeaf : Nameless → Type 0
IsLeaf (nameless_free x ty) = Unit {0}
IsLeaf (nameless_bound i) = Unit {0}
IsLeaf (nameless_loose x) = Unit {0}
IsLeaf (nameless_constant c ts) = Unit {0}
IsLeaf (nameless_application f a) = ⊥
IsLeaf (nameless_abstraction ty b) = ⊥
