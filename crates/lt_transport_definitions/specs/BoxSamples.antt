-- Types, theorems and correspondences of which the examples of refusals speak.
-- Source: this project's own.
use Rattle.std.specs.Prelude.{List, [], ◌∷◌, ◌++◌, map, codes, fold}
use Prim.Native.String.{String}
use Rattle.lt_definitions.specs.Samples.{nat, tyvar, type_of_args, numbers}
use Rattle.lt_definitions.specs.Types.{TypeTree, bool}
use Rattle.lt_definitions.specs.Terms.{TermTree}
use Rattle.lt_definitions.specs.Items.{Item, type_item, const_item, axiom_item}
use Rattle.lt_transport_definitions.specs.Notation.{WithType, ◌⇒◌, ◌~◌, ◌·◌, ◌≐◌, equality_at}
use Rattle.lt_transport_definitions.specs.Constants.{apply, rel_fun, relcompp, domainp, quotient}
use Rattle.lt_transport_definitions.specs.Relations.{Correspondence}
use Rattle.lt_transport_definitions.specs.LawTable.{further_statements}
use Rattle.lt_transport_definitions.specs.Sessions.{Four, Session}
use Rattle.lt_transport_definitions.specs.QuotientTerms.{identity_four}
use Rattle.lt_transport_definitions.specs.Commands.{corr_registered, property_registered, domain_registered, with_registration}
use Rattle.lt_transport_definitions.specs.Rows.{declared_constant}
use Rattle.lt_transport_definitions.specs.Samples.{session_over, behind_items, behind_laws}

-- a constant of a type
abbrev pub given_constant : String → TypeTree → WithType
given_constant c ty = declared_constant (codes c) ty

-- (cup T), (box T) and (late T)
abbrev pub cup : TypeTree → TypeTree
cup t = type_of_args "cup" (t ∷ [])

abbrev pub box : TypeTree → TypeTree
box t = type_of_args "box" (t ∷ [])

abbrev pub late : TypeTree → TypeTree
late t = type_of_args "late" (t ∷ [])

-- (arr T)
abbrev pub arr : TypeTree → TypeTree
arr t = type_of_args "arr" (t ∷ [])

-- four constants of a quotient between two types
abbrev pub four_named : (raw abs : TypeTree) (R A B T : String) → Four
four_named raw abs R A B T = record {
  rel = given_constant R (raw ~ raw);
  abs = given_constant A (raw ⇒ abs);
  rep = given_constant B (abs ⇒ raw);
  corr = given_constant T (raw ~ abs);
}

-- a constant of its type as an item
abbrev pub declares : String → TypeTree → Item
declares c ty = const_item (codes c) ty

-- their declarations
abbrev pub four_declared : (raw abs : TypeTree) (R A B T : String) → List Item
four_declared raw abs R A B T =
    declares R (raw ~ raw) ∷ declares A (raw ⇒ abs) ∷ declares B (abs ⇒ raw)
    ∷ declares T (raw ~ abs) ∷ []

-- the theorem of four terms
abbrev pub theorem : Four → TermTree
theorem f = (quotient f.rel f.abs f.rep f.corr).term

-- the quotient of (cup 'a) and (box 'a)
abbrev pub cup_four : Four
cup_four = four_named (cup (tyvar "a")) (box (tyvar "a")) "R" "A" "B" "T"

-- that of (fun nat 'a) and (arr 'a)
abbrev pub arr_four : Four
arr_four = four_named (nat ⇒ tyvar "a") (arr (tyvar "a")) "Ra" "Aa" "Ba" "Ta"

-- that of (box nat) and itself, which is no constructor over type variables
abbrev pub nat_four : Four
nat_four = identity_four (box nat)

-- types and theorems: two that can be lifted, one at a type, one whose correspondence is no
-- constant, one whose relation has a type variable of its own, one whose raw type is declared
-- later, and one whose raw type is a variable; and statements of rules over them
abbrev pub box_items : List Item
box_items = type_item (codes "cup") 1 ∷ type_item (codes "box") 1 ∷ type_item (codes "late") 1
    ∷ type_item (codes "arr") 1
    ∷ four_declared (cup (tyvar "a")) (box (tyvar "a")) "R" "A" "B" "T"
    ++ (four_declared (nat ⇒ tyvar "a") (arr (tyvar "a")) "Ra" "Aa" "Ba" "Ta"
    ++ (four_declared (late (tyvar "a")) (box (tyvar "a")) "Rl" "Al" "Bl" "Tl"
    ++ (four_declared (tyvar "a") (box (tyvar "a")) "Rb" "Ab" "Bb" "Tb"
    ++ declares "w" ((cup (tyvar "a") ⇒ bool) ⇒ bool)
    ∷ declares "v" ((box (tyvar "a") ⇒ bool) ⇒ bool)
    ∷ declares "loose" (tyvar "b" ⇒ cup (tyvar "a") ~ cup (tyvar "a")) ∷ declares "any" (tyvar "b")
    ∷ declares "none" (cup (tyvar "a")) ∷ declares "empty" (box (tyvar "a"))
    ∷ axiom_item (codes "Q_box") (theorem cup_four)
    ∷ axiom_item (codes "Q_arr") (theorem arr_four)
    ∷ axiom_item (codes "Q_nat") (theorem nat_four)
    ∷ axiom_item (codes "Q_term")
    (theorem (record cup_four { corr = relcompp (equality_at (cup (tyvar "a"))) cup_four.corr }))
    ∷ axiom_item (codes "Q_loose") (theorem (record cup_four { rel = loose_relation }))
    ∷ axiom_item (codes "Q_late")
    (theorem (four_named (late (tyvar "a")) (box (tyvar "a")) "Rl" "Al" "Bl" "Tl"))
    ∷ axiom_item (codes "Q_bare")
    (theorem (four_named (tyvar "a") (box (tyvar "a")) "Rb" "Ab" "Bb" "Tb"))
    ∷ axiom_item (codes "R_per") ((apply "part_equivp" (cup_four.rel ∷ [])).term)
    ∷ axiom_item (codes "Rb_per")
    ((apply "part_equivp" (given_constant "Rb" (tyvar "a" ~ tyvar "a") ∷ [])).term)
    ∷ axiom_item (codes "wv")
    ((rel_fun (rel_fun cup_four.corr (equality_at bool)) (equality_at bool)
    · given_constant "w" ((cup (tyvar "a") ⇒ bool) ⇒ bool)
    · given_constant "v" ((box (tyvar "a") ⇒ bool) ⇒ bool)).term)
    ∷ axiom_item (codes "ne")
    ((cup_four.corr · none_of_cup · given_constant "empty" (box (tyvar "a"))).term)
    ∷ axiom_item (codes "none_resp") ((cup_four.rel · none_of_cup · none_of_cup).term)
    ∷ axiom_item (codes "zz") ((given_constant "z" nat ≐ given_constant "z" nat).term)
    ∷ axiom_item (codes "T_right") ((apply "right_total" (cup_four.corr ∷ [])).term)
    ∷ axiom_item (codes "T_domain") ((domainp cup_four.corr ≐ domainp cup_four.corr).term) ∷ [])))
  where
    none_of_cup : WithType
    none_of_cup = given_constant "none" (cup (tyvar "a"))

    loose_relation : WithType
    loose_relation = given_constant "loose" (tyvar "b" ⇒ cup (tyvar "a") ~ cup (tyvar "a"))
        · given_constant "any" (tyvar "b")

-- the numbers, the further statements, and these
abbrev pub box_theory : List Item
box_theory = numbers ++ (map (λ p. axiom_item p.0 p.1.term) further_statements ++ box_items)

-- the session over these
abbrev pub over_boxes : Session
over_boxes = session_over box_theory

-- the same with no law registered
abbrev pub lawless_boxes : Session
lawless_boxes = behind_items behind_laws box_theory

-- T as a correspondence
abbrev pub box_correspondence : Correspondence
box_correspondence =
    record {
      name = codes "T";
      raw = cup (tyvar "a");
      con = codes "box";
      parameters = codes "a" ∷ [];
    }

-- with the correspondence, its property and its domain registered
abbrev pub over_correspondence : Session
over_correspondence = fold with_registration over_boxes
    (corr_registered box_correspondence
    ∷ property_registered
    (record {
      label = codes "T_right";
      property = codes "right_total";
      head = codes "T";
      premises = [];
    })
    ∷ domain_registered (record {
      label = codes "T_domain";
      head = codes "T";
      variables = [];
      type_arguments = codes "a" ∷ [];
      domain = (domainp cup_four.corr).term;
    }) ∷ [])
