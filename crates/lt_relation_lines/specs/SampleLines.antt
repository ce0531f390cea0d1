-- A worked session: integers as pairs of numbers, with what is registered of their correspondence.
-- Source: this project's own; the rules on the function relator are Huffman and Kunčar's.
use Rattle.std.specs.Prelude.{List, [], ◌∷◌, ◌++◌, map, codes}
use Rattle.lt_definitions.specs.Types.{Chars, TypeTree, type_constructor, no_types, bool}
use Rattle.lt_definitions.specs.Terms.{free_variable}
use Rattle.lt_definitions.specs.Typing.{Signature, built_in}
use Rattle.lt_nameless.specs.Nameless.{Nameless, nameless}
use Rattle.lt_transport_definitions.specs.Notation.{WithType, ◌⇒◌, ◌~◌, ◌·◌, ◌≐◌, ◌⟶◌, lambda, each, constant_at}
use Rattle.lt_transport_definitions.specs.Letters.{a, b, c, d}
use Rattle.lt_transport_definitions.specs.Constants.{constant_types, apply, rel_fun, domainp}
use Rattle.lt_transport_definitions.specs.Laws.{rel_fun_eq, property_of_equality}
use Rattle.lt_transport_definitions.specs.Relations.{Relation, equality, constructed, no_relations, relation_and, RelationVariable, Registry, function_relator_name}
use Rattle.lt_transport_definitions.specs.Expressions.{function_relator}
use Rattle.lt_relation_lines.specs.Grounds.{Ground}

abbrev pub pairs : TypeTree
pairs = type_constructor (codes "pairs") no_types

abbrev pub int : TypeTree
int = type_constructor (codes "int") no_types

abbrev pub sample_signature : Signature
sample_signature = record {
  types = built_in.types ++ (codes "pairs", 0) ∷ (codes "int", 0) ∷ [];
  consts = built_in.consts ++ (constant_types ++ (codes "cr_int", pairs ~ int)
      ∷ (codes "R", pairs ~ pairs) ∷ []);
}

abbrev pub cr_int : WithType
cr_int = constant_at (codes "cr_int") (pairs ~ int) []

-- right_total cr_int
abbrev pub int_right_total : WithType
int_right_total = apply "right_total" (cr_int ∷ [])

-- right_total A --> right_unique B --> right_unique (rel_fun A B)
abbrev pub fun_right_unique : WithType
fun_right_unique =
    each "A" (a ~ b) λ A. each "B" (c ~ d) λ B. apply "right_total" (A ∷ [])
    ⟶ apply "right_unique" (B ∷ []) ⟶ apply "right_unique" (rel_fun A B ∷ [])

-- \x. R x x
abbrev pub int_domain_side : WithType
int_domain_side = lambda "x" pairs λ x. constant_at (codes "R") (pairs ~ pairs) [] · x · x

-- Domainp cr_int = (\x. R x x)
abbrev pub int_domain : WithType
int_domain = domainp cr_int ≐ int_domain_side

-- \f. all x. Domainp A x --> Domainp B (f x)
abbrev pub fun_domain_side : WithType → WithType → WithType
fun_domain_side A B =
    lambda "f" (a ⇒ c) λ f. each "x" a λ x. domainp A · x ⟶ domainp B · (f · x)

-- Domainp (rel_fun A B) = (\f. all x. Domainp A x --> Domainp B (f x))
abbrev pub fun_domain : WithType
fun_domain =
    each "A" (a ~ b) λ A. each "B" (c ~ d) λ B. domainp (rel_fun A B) ≐ fun_domain_side A B

-- a free relation variable
abbrev pub free_relation : Chars → TypeTree → WithType
free_relation x ty = record { term = free_variable x ty; ty = ty }

abbrev pub stated : Chars × WithType → Chars × Nameless
stated p = (p.0, nameless [] p.1.term)

abbrev pub relation_number : Chars → Chars → Chars → RelationVariable
relation_number x l r = record { name = x; left_name = l; right_name = r }

abbrev pub sample_registry : Registry
sample_registry = record {
  relators = [];
  correspondences =
      record { name = codes "cr_int"; raw = pairs; con = codes "int"; parameters = [] } ∷ [];
  forms = [];
  property_rules =
      record {
        label = codes "int_right_total";
        property = codes "right_total";
        head = codes "cr_int";
        premises = [];
      } ∷ record {
        label = codes "fun_right_unique";
        property = codes "right_unique";
        head = codes "rel_fun";
        premises = (codes "right_total", 0) ∷ (codes "right_unique", 1) ∷ [];
      } ∷ [];
  domain_rules =
      record {
        label = codes "int_domain";
        head = codes "cr_int";
        variables = [];
        type_arguments = [];
        domain = int_domain_side.term;
      } ∷ record {
        label = codes "fun_domain";
        head = codes "rel_fun";
        variables =
            relation_number (codes "A1") (codes "a") (codes "b")
            ∷ relation_number (codes "A2") (codes "c") (codes "d") ∷ [];
        type_arguments = [];
        domain = (fun_domain_side (free_relation (codes "A1") (a ~ b))
            (free_relation (codes "A2") (c ~ d))).term;
      } ∷ [];
}

abbrev pub sample : Ground
sample = record {
  signature = sample_signature;
  named = map stated ((codes "rel_fun_eq", rel_fun_eq)
      ∷ (codes "right_unique_eq", property_of_equality (codes "right_unique"))
      ∷ (codes "int_right_total", int_right_total) ∷ (codes "fun_right_unique", fun_right_unique)
      ∷ (codes "int_domain", int_domain) ∷ (codes "fun_domain", fun_domain) ∷ []);
  registry = sample_registry;
  laws = (codes "rel_fun_eq", codes "rel_fun_eq")
      ∷ (codes "right_unique_eq", codes "right_unique_eq") ∷ [];
}

-- the correspondence, and equality at bool
abbrev pub integers : Relation
integers = constructed (codes "cr_int") [] no_relations

abbrev pub truth : Relation
truth = equality bool

-- cr_int ===> eq, and (eq ===> eq) ===> eq
abbrev pub predicates : Relation
predicates = function_relator integers truth

abbrev pub equal_throughout : Relation
equal_throughout = function_relator (function_relator truth (equality int)) truth
