-- What several rows begin with.
-- Source: this project's own.
use Rattle.std.specs.Prelude.{List, [], ◌∷◌, Option, codes, ◌++◌}
use Rattle.lt_definitions.specs.Types.{bool, fun, TypeTree}
use Rattle.lt_definitions.specs.Items.{type_item, const_item, axiom_item}
use Rattle.lt_texts.specs.Commands.{Command, item_command, relator_command, rule_command, lifting_command, quotient_type_command, lift_command, equiv_command, carry_command, corr_command, property_command}
use Rattle.lt_transport_definitions.specs.Correspondence.{chosen_name, chosen_rule, chosen_application, chosen_abstraction}
use Rattle.lt_transport_definitions.specs.Relations.{constructed, no_relations}
use Rattle.lt_transport_rows.specs.Computing.{Told, candidate, tv, tc, cn, bn, ap, lm, untold, told}

abbrev pub number : TypeTree
number = tc "nat" []

abbrev pub pairs : TypeTree
pairs = tc "prod" (number ∷ number ∷ [])

abbrev pub integer : TypeTree
integer = tc "int" []

abbrev pub raw : TypeTree
raw = tc "u" []

abbrev pub abstract : TypeTree
abstract = tc "q" []

abbrev pub list : TypeTree → TypeTree
list t = tc "list" (t ∷ [])

-- Integers as a quotient of pairs of numbers.
abbrev pub integer_quotient : List (Command × Option Told)
integer_quotient = untold (item_command (type_item (codes "nat") 0))
    ∷ untold (item_command (type_item (codes "prod") 2))
    ∷ untold (item_command (const_item (codes "intrel") (fun pairs (fun pairs bool))))
    ∷ untold (item_command (const_item (codes "padd") (fun pairs (fun pairs pairs))))
    ∷ untold (item_command (axiom_item (codes "intrel_per") (ap (cn "part_equivp" (pairs ∷ [])) (cn
    "intrel" []))))
    ∷ untold (item_command (axiom_item (codes "padd_resp") (ap (ap (ap (ap (cn "rel_fun" (pairs ∷
    pairs ∷ (fun pairs pairs) ∷ (fun pairs pairs) ∷ [])) (cn "intrel" [])) (ap (ap (cn "rel_fun"
    (pairs ∷ pairs ∷ pairs ∷ pairs ∷ [])) (cn "intrel" [])) (cn "intrel" []))) (cn "padd" [])) (cn
    "padd" []))))
    ∷ untold (item_command (axiom_item (codes "padd_comm") (ap (cn "all" (pairs ∷ [])) (lm "x0"
    pairs (ap (ap (cn "imp" []) (ap (ap (cn "intrel" []) (bn "x0")) (bn "x0"))) (ap (cn "all"
    (pairs ∷ [])) (lm "x1" pairs (ap (ap (cn "imp" []) (ap (ap (cn "intrel" []) (bn "x1")) (bn
    "x1"))) (ap (ap (cn "intrel" []) (ap (ap (cn "padd" []) (bn "x0")) (bn "x1"))) (ap (ap (cn
    "padd" []) (bn "x1")) (bn "x0")))))))))))
    ∷ untold (rule_command (codes "all_bounded"))
    ∷ untold (quotient_type_command (codes "int") [] (cn "intrel" []) (codes "intrel_per"))
    ∷ []

-- Addition is lifted, and a statement on it is carried over.
abbrev pub integer_sums : List (Command × Option Told)
integer_sums = integer_quotient
    ++ (untold (lift_command (codes "iadd") (fun integer (fun integer integer)) (cn "padd" []) (codes
    "padd_resp"))
    ∷ told (equiv_command (codes "comm") (ap (cn "all" (integer ∷ [])) (lm "x0" integer (ap (cn
    "all" (integer ∷ [])) (lm "x1" integer (ap (ap (cn "eq" (integer ∷ [])) (ap (ap (cn "iadd" [])
    (bn "x0")) (bn "x1"))) (ap (ap (cn "iadd" []) (bn "x1")) (bn "x0")))))))) (record {
      solution =
          λ s. (
            (chosen_application (chosen_rule (codes "all") (integer ∷ []) 1 (candidate s "all"
                (integer ∷ []) 1)) (chosen_abstraction (codes "x0") integer (chosen_application (chosen_rule
                (codes "all") (integer ∷ []) 1 (candidate s "all" (integer ∷ []) 1)) (chosen_abstraction
                (codes "x1") integer (chosen_application (chosen_application (chosen_rule (codes "eq")
                (integer ∷ []) 1 (candidate s "eq" (integer ∷ []) 1)) (chosen_application (chosen_application
                (chosen_rule (codes "iadd") [] 0 (candidate s "iadd" [] 0)) (chosen_name (codes "x0")))
                (chosen_name (codes "x1")))) (chosen_application (chosen_application (chosen_rule (codes
                "iadd") [] 0 (candidate s "iadd" [] 0)) (chosen_name (codes "x1"))) (chosen_name (codes
                "x0")))))))),
            (
              ((constructed (codes "cr_int") [] no_relations) ∷ []),
              (
                (constructed (codes
                    "cr_int") [] no_relations),
                (
                  ((constructed (codes "cr_int") [] no_relations) ∷ []),
                  ((constructed (codes "cr_int") [] no_relations), (([], (([], tt), tt)), (([], tt), tt))),
                ),
              ),
            ),
          );
      top = 0;
      image = (ap (lm "x0" (fun pairs bool) (ap (cn "all" (pairs ∷ [])) (lm "x1" pairs (ap
          (ap (cn "imp" []) (ap (lm "x2" pairs (ap (ap (cn "intrel" []) (bn "x2")) (bn "x2"))) (bn
          "x1"))) (ap (bn "x0") (bn "x1")))))) (lm "x0" pairs (ap (lm "x1" (fun pairs bool) (ap (cn
          "all" (pairs ∷ [])) (lm "x2" pairs (ap (ap (cn "imp" []) (ap (lm "x3" pairs (ap (ap (cn
          "intrel" []) (bn "x3")) (bn "x3"))) (bn "x2"))) (ap (bn "x1") (bn "x2")))))) (lm "x1" pairs
          (ap (ap (cn "intrel" []) (ap (ap (cn "padd" []) (bn "x0")) (bn "x1"))) (ap (ap (cn "padd" [])
          (bn "x1")) (bn "x0")))))));
      normal = (ap (cn "all" (pairs ∷ [])) (lm "x0" pairs (ap (ap (cn
          "imp" []) (ap (ap (cn "intrel" []) (bn "x0")) (bn "x0"))) (ap (cn "all" (pairs ∷ [])) (lm "x1"
          pairs (ap (ap (cn "imp" []) (ap (ap (cn "intrel" []) (bn "x1")) (bn "x1"))) (ap (ap (cn
          "intrel" []) (ap (ap (cn "padd" []) (bn "x0")) (bn "x1"))) (ap (ap (cn "padd" []) (bn "x1"))
          (bn "x0")))))))));
    })
    ∷ untold (carry_command (codes "icomm") (codes "comm") (codes "padd_comm"))
    ∷ [])

-- Lists with their relator, and a quotient of lists of integers.
abbrev pub lists_of_integers : List (Command × Option Told)
lists_of_integers = integer_sums
    ++ (untold (item_command (type_item (codes "list") 1))
    ∷ untold (item_command (const_item (codes "list_all2") (fun (fun (tv "a") (fun (tv "b") bool))
    (fun (list (tv "a")) (fun (list (tv "b")) bool)))))
    ∷ untold (item_command (const_item (codes "map") (fun (fun (tv "a") (tv "b")) (fun (list (tv
    "a")) (list (tv "b"))))))
    ∷ untold (item_command (axiom_item (codes "list_eq") (ap (ap (cn "eq" ((fun (list (tv "a")) (fun
    (list (tv "a")) bool)) ∷ [])) (ap (cn "list_all2" ((tv "a") ∷ (tv "a") ∷ [])) (cn "eq" ((tv
    "a") ∷ [])))) (cn "eq" ((list (tv "a")) ∷ [])))))
    ∷ untold (item_command (axiom_item (codes "list_quotient") (ap (cn "all" ((fun (tv "a") (fun (tv
    "a") bool)) ∷ [])) (lm "x0" (fun (tv "a") (fun (tv "a") bool)) (ap (cn "all" ((fun (tv "a")
    (tv "b")) ∷ [])) (lm "x1" (fun (tv "a") (tv "b")) (ap (cn "all" ((fun (tv "b") (tv "a")) ∷
    [])) (lm "x2" (fun (tv "b") (tv "a")) (ap (cn "all" ((fun (tv "a") (fun (tv "b") bool)) ∷ []))
    (lm "x3" (fun (tv "a") (fun (tv "b") bool)) (ap (ap (cn "imp" []) (ap (ap (ap (ap (cn
    "Quotient" ((tv "a") ∷ (tv "b") ∷ [])) (bn "x0")) (bn "x1")) (bn "x2")) (bn "x3"))) (ap (ap
    (ap (ap (cn "Quotient" ((list (tv "a")) ∷ (list (tv "b")) ∷ [])) (ap (cn "list_all2" ((tv "a")
    ∷ (tv "a") ∷ [])) (bn "x0"))) (ap (cn "map" ((tv "a") ∷ (tv "b") ∷ [])) (bn "x1"))) (ap (cn
    "map" ((tv "b") ∷ (tv "a") ∷ [])) (bn "x2"))) (ap (cn "list_all2" ((tv "a") ∷ (tv "b") ∷ []))
    (bn "x3"))))))))))))))
    ∷ untold (item_command (axiom_item (codes "list_comp") (ap (cn "all" ((fun (tv "a") (fun (tv
    "b") bool)) ∷ [])) (lm "x0" (fun (tv "a") (fun (tv "b") bool)) (ap (cn "all" ((fun (tv "b")
    (fun (tv "c") bool)) ∷ [])) (lm "x1" (fun (tv "b") (fun (tv "c") bool)) (ap (ap (cn "eq" ((fun
    (list (tv "a")) (fun (list (tv "c")) bool)) ∷ [])) (ap (cn "list_all2" ((tv "a") ∷ (tv "c") ∷
    [])) (ap (ap (cn "relcompp" ((tv "a") ∷ (tv "b") ∷ (tv "c") ∷ [])) (bn "x0")) (bn "x1")))) (ap
    (ap (cn "relcompp" ((list (tv "a")) ∷ (list (tv "b")) ∷ (list (tv "c")) ∷ [])) (ap (cn
    "list_all2" ((tv "a") ∷ (tv "b") ∷ [])) (bn "x0"))) (ap (cn "list_all2" ((tv "b") ∷ (tv "c") ∷
    [])) (bn "x1"))))))))))
    ∷ untold (relator_command (codes "list") (codes "list_all2") (codes "map") (codes "list_eq")
    (codes "list_quotient") (codes "list_comp"))
    ∷ untold (item_command (type_item (codes "q2") 0))
    ∷ untold (item_command (const_item (codes "R2") (fun (list integer) (fun (list integer) bool))))
    ∷ untold (item_command (const_item (codes "abs2") (fun (list integer) (tc "q2" []))))
    ∷ untold (item_command (const_item (codes "rep2") (fun (tc "q2" []) (list integer))))
    ∷ untold (item_command (const_item (codes "cr2") (fun (list integer) (fun (tc "q2" []) bool))))
    ∷ untold (item_command (axiom_item (codes "Q2") (ap (ap (ap (ap (cn "Quotient" ((list integer) ∷
    (tc "q2" []) ∷ [])) (cn "R2" [])) (cn "abs2" [])) (cn "rep2" [])) (cn "cr2" []))))
    ∷ untold (lifting_command (codes "Q2"))
    ∷ untold (item_command (const_item (codes "t") (list pairs)))
    ∷ untold (item_command (axiom_item (codes "t_resp") (ap (ap (ap (ap (cn "relcompp" ((list pairs)
    ∷ (list integer) ∷ (list pairs) ∷ [])) (ap (cn "list_all2" (pairs ∷ integer ∷ [])) (cn
    "cr_int" []))) (ap (ap (cn "relcompp" ((list integer) ∷ (list integer) ∷ (list pairs) ∷ []))
    (cn "R2" [])) (ap (cn "conversep" ((list pairs) ∷ (list integer) ∷ [])) (ap (cn "list_all2"
    (pairs ∷ integer ∷ [])) (cn "cr_int" []))))) (cn "t" [])) (cn "t" []))))
    ∷ [])

-- Finite sets as a quotient of lists.
abbrev pub finite_sets : List (Command × Option Told)
finite_sets = untold (item_command (type_item (codes "list") 1))
    ∷ untold (item_command (type_item (codes "fs") 1))
    ∷ untold (item_command (const_item (codes "Rf") (fun (list (tv "a")) (fun (list (tv "a"))
    bool))))
    ∷ untold (item_command (const_item (codes "abs_fs") (fun (list (tv "a")) (tc "fs" ((tv "a") ∷
    [])))))
    ∷ untold (item_command (const_item (codes "rep_fs") (fun (tc "fs" ((tv "a") ∷ [])) (list (tv
    "a")))))
    ∷ untold (item_command (const_item (codes "cr_fs") (fun (list (tv "a")) (fun (tc "fs" ((tv "a")
    ∷ [])) bool))))
    ∷ untold (item_command (axiom_item (codes "Q_fs") (ap (ap (ap (ap (cn "Quotient" ((list (tv
    "a")) ∷ (tc "fs" ((tv "a") ∷ [])) ∷ [])) (cn "Rf" ((tv "a") ∷ []))) (cn "abs_fs" ((tv "a") ∷
    []))) (cn "rep_fs" ((tv "a") ∷ []))) (cn "cr_fs" ((tv "a") ∷ [])))))
    ∷ untold (lifting_command (codes "Q_fs"))
    ∷ []

-- Two correspondences between the same types, and a rule for one of them.
abbrev pub two_relations : List (Command × Option Told)
two_relations = untold (item_command (type_item (codes "u") 0))
    ∷ untold (item_command (type_item (codes "q") 0))
    ∷ untold (item_command (const_item (codes "a") raw))
    ∷ untold (item_command (const_item (codes "z") abstract))
    ∷ untold (item_command (const_item (codes "r") (fun raw (fun abstract bool))))
    ∷ untold (item_command (const_item (codes "r2") (fun raw (fun abstract bool))))
    ∷ untold (item_command (const_item (codes "p") (fun raw bool)))
    ∷ untold (item_command (const_item (codes "s") (fun abstract bool)))
    ∷ untold (corr_command (codes "r"))
    ∷ untold (corr_command (codes "r2"))
    ∷ untold (item_command (axiom_item (codes "az") (ap (ap (cn "r" []) (cn "a" [])) (cn "z" []))))
    ∷ untold (rule_command (codes "az"))
    ∷ []

-- A correspondence.
abbrev pub one_correspondence : List (Command × Option Told)
one_correspondence = untold (item_command (type_item (codes "u") 0))
    ∷ untold (item_command (type_item (codes "q") 0))
    ∷ untold (item_command (const_item (codes "r") (fun raw (fun abstract bool))))
    ∷ untold (corr_command (codes "r"))
    ∷ []

-- It is right total, and relates two predicates.
abbrev pub bounded_quantifiers : List (Command × Option Told)
bounded_quantifiers = one_correspondence
    ++ (untold (item_command (const_item (codes "p") (fun raw bool)))
    ∷ untold (item_command (const_item (codes "s") (fun abstract bool)))
    ∷ untold (item_command (axiom_item (codes "ps") (ap (ap (ap (ap (cn "rel_fun" (raw ∷ abstract ∷
    bool ∷ bool ∷ [])) (cn "r" [])) (cn "eq" (bool ∷ []))) (cn "p" [])) (cn "s" []))))
    ∷ untold (rule_command (codes "ps"))
    ∷ untold (item_command (axiom_item (codes "rt") (ap (cn "right_total" (raw ∷ abstract ∷ [])) (cn
    "r" []))))
    ∷ [])

-- That it is right total is registered.
abbrev pub right_total_registered : List (Command × Option Told)
right_total_registered = bounded_quantifiers
    ++ (untold (property_command (codes "rt"))
    ∷ [])
