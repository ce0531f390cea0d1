-- The laws of the function relator: related functions take related arguments to related results,
-- and functions that do are related.
-- Source: Huffman and Kunčar.
use Rattle.std.specs.Prelude.{List, [], ◌∷◌, codes}
use Rattle.lt_definitions.specs.Types.{Chars, TypeTree, type_variable, fun}
use Rattle.lt_nameless.specs.Nameless.{Nameless, nameless_bound, nameless_application}
use Rattle.lt_nameless.specs.NamelessRules.{nameless_implies}
use Rattle.lt_programs.specs.Openings.{for_alls}
use Rattle.lt_relating.specs.TypedRelations.{relation_type, related, rel_fun}

-- their type variables: 'a and 'c are the types of arguments, 'b and 'd those of results
abbrev pub a : TypeTree
a = type_variable (codes "a")

abbrev pub b : TypeTree
b = type_variable (codes "b")

abbrev pub c : TypeTree
c = type_variable (codes "c")

abbrev pub d : TypeTree
d = type_variable (codes "d")

-- these, in the order of rel_fun's type arguments
abbrev pub relator_names : List Chars
relator_names = codes "a" ∷ codes "c" ∷ codes "b" ∷ codes "d" ∷ []

-- S (f x) (g y)
abbrev pub results_related : Nameless → Nameless → Nameless → Nameless → Nameless → Nameless
results_related s f g x y = related s (nameless_application f x) (nameless_application g y)

-- rel_fun R S f g --> R x y --> S (f x) (g y), for six variables of which y is the innermost
abbrev pub application_body : List TypeTree → Nameless
application_body ts =
    nameless_implies
    (related (rel_fun ts (nameless_bound 5) (nameless_bound 4)) (nameless_bound 3) (nameless_bound 2))
    (nameless_implies (related (nameless_bound 5) (nameless_bound 1) (nameless_bound 0))
    (results_related (nameless_bound 4) (nameless_bound 3) (nameless_bound 2) (nameless_bound 1)
    (nameless_bound 0)))

-- all R S f g x y. rel_fun R S f g --> R x y --> S (f x) (g y)
abbrev pub application_law : Nameless
application_law =
    for_alls (relation_type a c ∷ relation_type b d ∷ fun a b ∷ fun c d ∷ a ∷ c ∷ [])
    (application_body (a ∷ c ∷ b ∷ d ∷ []))

-- all x y. R x y --> S (f x) (g y), where none of these has the indices of x and y
abbrev pub related_throughout : TypeTree → TypeTree → Nameless → Nameless → Nameless → Nameless
    → Nameless
related_throughout at ct r s f g =
    for_alls (at ∷ ct ∷ []) (nameless_implies (related r (nameless_bound 1) (nameless_bound 0))
    (results_related s f g (nameless_bound 1) (nameless_bound 0)))

-- (all x y. R x y --> S (f x) (g y)) --> rel_fun R S f g, for four variables of which g is the
-- innermost
abbrev pub abstraction_body : TypeTree → TypeTree → List TypeTree → Nameless
abstraction_body at ct ts =
    nameless_implies
    (related_throughout at ct (nameless_bound 5) (nameless_bound 4) (nameless_bound 3)
    (nameless_bound 2))
    (related (rel_fun ts (nameless_bound 3) (nameless_bound 2)) (nameless_bound 1)
    (nameless_bound 0))

-- all R S f g. (all x y. R x y --> S (f x) (g y)) --> rel_fun R S f g
abbrev pub abstraction_law : Nameless
abstraction_law =
    for_alls (relation_type a c ∷ relation_type b d ∷ fun a b ∷ fun c d ∷ [])
    (abstraction_body a c (a ∷ c ∷ b ∷ d ∷ []))
