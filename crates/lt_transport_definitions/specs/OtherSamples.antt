-- Sessions in which constants of the laws have other types, or the raw type of a typedef is a
-- variable, of which the examples of refusals speak.
-- Source: this project's own.
use Rattle.std.specs.Prelude.{List, [], ◌∷◌, ◌++◌, if◌then◌else◌, map, codes, unwrap_or}
use Rattle.lt_definitions.specs.Samples.{nat, tyvar, con_at, app, typedef_t}
use Rattle.lt_definitions.specs.Types.{Chars, same_name, TypeTree, bool}
use Rattle.lt_definitions.specs.Terms.{falsity}
use Rattle.lt_definitions.specs.Items.{Item, type_item, const_item, axiom_item}
use Rattle.lt_transport_definitions.specs.Notation.{◌⇒◌, ◌~◌}
use Rattle.lt_transport_definitions.specs.Constants.{constant_types, table_type}
use Rattle.lt_transport_definitions.specs.LawTexts.{law_statement, laws_of_lifting, laws_of_parametric}
use Rattle.lt_transport_definitions.specs.Sessions.{Session, new_session}
use Rattle.lt_transport_definitions.specs.Commands.{session_behind}
use Rattle.lt_transport_definitions.specs.Samples.{session_over, behind_items, with_laws}
use Rattle.lt_transport_definitions.specs.BoxSamples.{arr, four_declared, theorem, arr_four}
use Rattle.lt_transport_definitions.specs.RefusalSamples.{lifting_block, arr_entry, arr_correspondence, list_relator_type, list_statements}

-- relcompp's own type
abbrev pub relcompp_type : TypeTree
relcompp_type = table_type (codes "relcompp")

-- another type, over which the law that eq is its left unit has its type too
abbrev pub other_relcompp_type : TypeTree
other_relcompp_type = (tyvar "a" ~ tyvar "b") ⇒ (tyvar "a" ~ tyvar "c") ⇒ (tyvar "b" ~ tyvar "c")

-- the laws that lifting and parametric ask for
abbrev pub form_laws : List Chars
form_laws = laws_of_lifting ++ laws_of_parametric

-- the laws' constants, of which one has this type
abbrev pub constants_but : Chars → TypeTree → List Item
constants_but c ty = map (λ p. const_item p.0 (if same_name p.0 c then ty else p.1)) constant_types

-- the laws' constants, with relcompp of a type; these laws; and the theorem of arr
abbrev pub relcompp_items : TypeTree → List Item
relcompp_items ty = constants_but (codes "relcompp") ty
    ++ (map (λ w. axiom_item w (unwrap_or (law_statement w) falsity)) form_laws
    ++ type_item (codes "nat") 0 ∷ type_item (codes "arr") 1
    ∷ four_declared (nat ⇒ tyvar "a") (arr (tyvar "a")) "Ra" "Aa" "Ba" "Ta"
    ++ axiom_item (codes "Q_arr") (theorem arr_four) ∷ [])

-- the session with these, these laws, and the quotient of arr
abbrev pub over_relcompp : TypeTree → Session
over_relcompp ty = session_behind
    (with_laws (behind_items (new_session 100) (relcompp_items ty)) form_laws)
    (lifting_block arr_entry arr_correspondence)

-- lists whose relator has the name of the function relator
abbrev pub rel_fun_items : List Item
rel_fun_items = type_item (codes "list") 1
    ∷ constants_but (codes "rel_fun") list_relator_type ++ list_statements (codes "rel_fun")

-- the session over these
abbrev pub over_other_rel_fun : Session
over_other_rel_fun = behind_items (new_session 100) rel_fun_items

-- a typedef whose raw type is a variable
abbrev pub bare_items : List Item
bare_items = const_item (codes "P") (tyvar "a" ⇒ bool) ∷ const_item (codes "z") (tyvar "a")
    ∷ axiom_item (codes "Pz") (app (con_at "P" (tyvar "a" ∷ [])) (con_at "z" (tyvar "a" ∷ [])))
    ∷ typedef_t (codes "a" ∷ []) (con_at "P" (tyvar "a" ∷ [])) ∷ []

-- the session over these
abbrev pub over_bare_typedef : Session
over_bare_typedef = session_over bare_items
