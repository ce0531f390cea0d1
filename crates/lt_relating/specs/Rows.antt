-- A worked row: integers as pairs of numbers, and a statement on all of them.
-- Source: this project's own.
use Rattle.std.specs.Prelude.{List, [], ◌∷◌, ◌++◌, codes}
use Rattle.lt_definitions.specs.Types.{TypeTree, type_variable, type_constructor, no_types, bool, fun}
use Rattle.lt_definitions.specs.Typing.{Signature, built_in}
use Rattle.lt_nameless.specs.Nameless.{Nameless, nameless_bound, nameless_constant, nameless_application, nameless_abstraction, NamelessSequent}
use Rattle.lt_nameless.specs.NamelessRules.{nameless_equation, nameless_for_all}
use Rattle.lt_programs.specs.Programs.{theorem}
use Rattle.lt_relating.specs.TypedRelations.{TypedRelation, relation_type, related, relating}
use Rattle.lt_relating.specs.RelatorLaws.{a, b, c, d, application_law, abstraction_law}
use Rattle.lt_relating.specs.Parts.{Laws}
use Rattle.lt_relating.specs.Plans.{Plan, planned_line, planned_name, planned_application, planned_abstraction}

abbrev pub pairs : TypeTree
pairs = type_constructor (codes "pairs") no_types

abbrev pub int : TypeTree
int = type_constructor (codes "int") no_types

-- two types with a correspondence between them, a predicate on each, and the relator of functions
abbrev pub row_signature : Signature
row_signature = record {
  types = built_in.types ++ (codes "pairs", 0) ∷ (codes "int", 0) ∷ [];
  consts = built_in.consts ++ (
    codes "rel_fun",
    fun (relation_type a c) (fun (relation_type b d)
        (relation_type (fun a b) (fun c d))),
  ) ∷ (codes "cr_int", relation_type pairs int)
      ∷ (codes "h", fun pairs bool) ∷ (codes "k", fun int bool) ∷ [];
}

-- the correspondence, and equality at bool
abbrev pub cr_int : TypedRelation
cr_int = record { term = nameless_constant (codes "cr_int") []; left = pairs; right = int }

abbrev pub truth : TypedRelation
truth = record { term = nameless_constant (codes "eq") (bool ∷ []); left = bool; right = bool }

abbrev pub h : Nameless
h = nameless_constant (codes "h") []

abbrev pub k : Nameless
k = nameless_constant (codes "k") []

abbrev pub all : TypeTree → Nameless
all ty = nameless_constant (codes "all") (ty ∷ [])

-- what relates the predicates, and what relates `all` at both types
abbrev pub predicates : TypedRelation
predicates = relating cr_int truth

abbrev pub row_lines : List NamelessSequent
row_lines =
    theorem (related predicates.term h k)
    ∷ theorem (related (relating predicates truth).term (all pairs) (all int)) ∷ []

abbrev pub row_laws : Laws
row_laws = record {
  named = (codes "app", application_law) ∷ (codes "abs", abstraction_law) ∷ [];
  application = codes "app";
  abstraction = codes "abs";
}

-- all x. k x, over int
abbrev pub row_plan : Plan
row_plan =
    planned_application (planned_line 2 (all pairs) (all int))
    (planned_abstraction cr_int (planned_application (planned_line 1 h k) (planned_name 0 cr_int)))

-- (all x. h x) = (all x. k x), over pairs on the left
abbrev pub row_equation : Nameless
row_equation =
    nameless_equation bool
    (nameless_for_all pairs (nameless_abstraction pairs (nameless_application h (nameless_bound 0))))
    (nameless_for_all int (nameless_abstraction int (nameless_application k (nameless_bound 0))))
