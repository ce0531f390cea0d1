-- The parts of types of functions.
use Rattle.std.specs.Prelude.{Option, Some, None, if◌then◌else◌, codes}
use Rattle.lt_definitions.specs.Types.{TypeTree, type_constructor, type_and, no_types, same_name}

-- what a type of functions goes from and to
abbrev pub function_parts : TypeTree → Option (TypeTree × TypeTree)
function_parts (type_constructor c (type_and from (type_and to no_types))) = if same_name c (codes "fun") then Some (from, to) else None
function_parts _ = None
