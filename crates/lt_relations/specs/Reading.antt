-- Why what is read isn't registered, and the registry with what is read.
use Rattle.std.specs.Prelude.{List, Bool, ◌&&◌, not, map, Option, Some, None, codes}
use Rattle.lt_definitions.specs.Types.{Chars, same_name, TypeTree, type_variable, type_constructor, row, same_type, type_names, are_distinct}
use Rattle.lt_hol.specs.declared.form_part.RelatorPart.TheVariants.{Corr}
use Rattle.lt_transport_definitions.specs.Answers.{given, only_where}
use Rattle.lt_transport_definitions.specs.Relations.{Correspondence, Registry}
use Rattle.lt_transport_definitions.specs.Forms.{is_over_variables, are_among, constructor_name}
use Rattle.lt_relations.specs.declared.rel_fault.RelFault.{RelFault}
use Rattle.lt_relations.specs.declared.rel_fault.RelFault.TheVariants.{RelatorShape}
use Rattle.lt_relations.specs.Registering.{with_correspondence, correspondence_fault}

-- The constant is no correspondence by its type, or its name is taken.
abbrev pub corr_fault : Option Correspondence → Registry → Option RelFault
corr_fault None G = Some (RelatorShape Corr)
corr_fault (Some d) G = correspondence_fault G d

abbrev pub with_declared : Option Correspondence → Registry → Registry
with_declared None G = G
with_declared (Some d) G = with_correspondence d G

-- what a constant is that relates these types
abbrev pub correspondence_over : Chars → TypeTree × TypeTree → Option Correspondence
correspondence_over c s = only_where
    (is_over_variables s.1 && not (same_name (constructor_name s.1) (codes "fun"))
    && are_among (type_names s.0) (type_names s.1))
    (record { name = c; raw = s.0; con = constructor_name s.1; parameters = type_names s.1 })

-- whether a type is a constructor over these variables, of which none stands twice
abbrev pub is_over : TypeTree → Chars → List Chars → Bool
is_over ty con parameters =
    same_type ty (type_constructor con (row (map type_variable parameters))) && are_distinct parameters

-- whether a correspondence may relate these types, the second a constructor over these variables
abbrev pub may_have : TypeTree → TypeTree → Chars → List Chars → Bool
may_have raw over con parameters =
    is_over over con parameters && not (same_name con (codes "fun")) && are_among (type_names raw) parameters
