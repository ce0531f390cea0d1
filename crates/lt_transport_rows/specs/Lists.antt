-- Rows over lists and quotients of lists.
-- Source: this project's own.
use Rattle.std.specs.Prelude.{List, [], ◌∷◌, Option, codes, ◌++◌}
use Rattle.lt_definitions.specs.Types.{bool, fun}
use Rattle.lt_definitions.specs.Items.{const_item, axiom_item}
use Rattle.lt_texts.specs.Commands.{Command, item_command, relator_command, rule_command, lift_command, parametric_command, param_rule_command}
use Rattle.lt_transport_rows.specs.Beginnings.{list, lists_of_integers, finite_sets}
use Rattle.lt_transport_rows.specs.Computing.{Told, tv, tc, cn, bn, ap, lm, untold}

-- a composed quotient: its transfer lemma is no rule
abbrev pub composed : List (Command × Option Told)
composed = lists_of_integers
    ++ (untold (lift_command (codes "c") (tc "q2" []) (cn "t" []) (codes "t_resp"))
    ∷ [])

-- so a statement over it has no transport by it
abbrev pub composed_no_rule : List (Command × Option Told)
composed_no_rule = composed
    ++ (untold (rule_command (codes "c_transfer"))
    ∷ [])

-- a respectfulness statement that differs
abbrev pub other_respectfulness : List (Command × Option Told)
other_respectfulness = lists_of_integers
    ++ (untold (lift_command (codes "c") (tc "q2" []) (cn "t" []) (codes "Q2"))
    ∷ [])

-- a constant whose argument is a function over an abstract type, lifted
abbrev pub functional : List (Command × Option Told)
functional = finite_sets
    ++ (untold (item_command (const_item (codes "w") (fun (fun (list (tv "a")) bool) bool)))
    ∷ untold (item_command (axiom_item (codes "w_resp") (ap (ap (ap (ap (cn "rel_fun" ((fun (list
    (tv "a")) bool) ∷ (fun (list (tv "a")) bool) ∷ bool ∷ bool ∷ [])) (ap (ap (cn "rel_fun" ((list
    (tv "a")) ∷ (list (tv "a")) ∷ bool ∷ bool ∷ [])) (cn "Rf" ((tv "a") ∷ []))) (cn "eq" (bool ∷
    [])))) (cn "eq" (bool ∷ []))) (cn "w" ((tv "a") ∷ []))) (cn "w" ((tv "a") ∷ [])))))
    ∷ untold (lift_command (codes "v") (fun (fun (tc "fs" ((tv "a") ∷ [])) bool) bool) (cn "w" ((tv
    "a") ∷ [])) (codes "w_resp"))
    ∷ [])

-- its transfer rule has no parametrised form
abbrev pub function_argument : List (Command × Option Told)
function_argument = functional
    ++ (untold (param_rule_command (codes "vp") (codes "v_transfer") (codes "w_resp"))
    ∷ [])

-- a parametrised correspondence
abbrev pub parametrised : List (Command × Option Told)
parametrised = finite_sets
    ++ (untold (item_command (const_item (codes "list_all2") (fun (fun (tv "a") (fun (tv "b") bool))
    (fun (list (tv "a")) (fun (list (tv "b")) bool)))))
    ∷ untold (item_command (const_item (codes "map") (fun (fun (tv "a") (tv "b")) (fun (list (tv
    "a")) (list (tv "b"))))))
    ∷ untold (item_command (axiom_item (codes "list_eq") (ap (ap (cn "eq" ((fun (list (tv "a")) (fun
    (list (tv "a")) bool)) ∷ [])) (ap (cn "list_all2" ((tv "a") ∷ (tv "a") ∷ [])) (cn "eq" ((tv
    "a") ∷ [])))) (cn "eq" ((list (tv "a")) ∷ [])))))
    ∷ untold (item_command (axiom_item (codes "list_quotient") (ap (cn "all" ((fun (tv "a") (fun (tv
    "a") bool)) ∷ [])) (lm "x0" (fun (tv "a") (fun (tv "a") bool)) (ap (cn "all" ((fun (tv "a")
    (tv "b")) ∷ [])) (lm "x1" (fun (tv "a") (tv "b")) (ap (cn "all" ((fun (tv "b") (tv "a")) ∷
    [])) (lm "x2" (fun (tv "b") (tv "a")) (ap (cn "all" ((fun (tv "a") (fun (tv "b") bool)) ∷ []))
    (lm "x3" (fun (tv "a") (fun (tv "b") bool)) (ap (ap (cn "imp" []) (ap (ap (ap (ap (cn
    "Quotient" ((tv "a") ∷ (tv "b") ∷ [])) (bn "x0")) (bn "x1")) (bn "x2")) (bn "x3"))) (ap (ap
    (ap (ap (cn "Quotient" ((list (tv "a")) ∷ (list (tv "b")) ∷ [])) (ap (cn "list_all2" ((tv "a")
    ∷ (tv "a") ∷ [])) (bn "x0"))) (ap (cn "map" ((tv "a") ∷ (tv "b") ∷ [])) (bn "x1"))) (ap (cn
    "map" ((tv "b") ∷ (tv "a") ∷ [])) (bn "x2"))) (ap (cn "list_all2" ((tv "a") ∷ (tv "b") ∷ []))
    (bn "x3"))))))))))))))
    ∷ untold (item_command (axiom_item (codes "list_comp") (ap (cn "all" ((fun (tv "a") (fun (tv
    "b") bool)) ∷ [])) (lm "x0" (fun (tv "a") (fun (tv "b") bool)) (ap (cn "all" ((fun (tv "b")
    (fun (tv "c") bool)) ∷ [])) (lm "x1" (fun (tv "b") (fun (tv "c") bool)) (ap (ap (cn "eq" ((fun
    (list (tv "a")) (fun (list (tv "c")) bool)) ∷ [])) (ap (cn "list_all2" ((tv "a") ∷ (tv "c") ∷
    [])) (ap (ap (cn "relcompp" ((tv "a") ∷ (tv "b") ∷ (tv "c") ∷ [])) (bn "x0")) (bn "x1")))) (ap
    (ap (cn "relcompp" ((list (tv "a")) ∷ (list (tv "b")) ∷ (list (tv "c")) ∷ [])) (ap (cn
    "list_all2" ((tv "a") ∷ (tv "b") ∷ [])) (bn "x0"))) (ap (cn "list_all2" ((tv "b") ∷ (tv "c") ∷
    [])) (bn "x1"))))))))))
    ∷ untold (relator_command (codes "list") (codes "list_all2") (codes "map") (codes "list_eq")
    (codes "list_quotient") (codes "list_comp"))
    ∷ untold (parametric_command (codes "fs"))
    ∷ [])

-- the same without the relator
abbrev pub no_relator : List (Command × Option Told)
no_relator = finite_sets
    ++ (untold (parametric_command (codes "fs"))
    ∷ [])

-- a parametrised rule
abbrev pub parametrised_rule : List (Command × Option Told)
parametrised_rule = parametrised
    ++ (untold (item_command (const_item (codes "nl") (list (tv "a"))))
    ∷ untold (item_command (axiom_item (codes "nl_resp") (ap (ap (cn "Rf" ((tv "a") ∷ [])) (cn "nl"
    ((tv "a") ∷ []))) (cn "nl" ((tv "a") ∷ [])))))
    ∷ untold (lift_command (codes "fnil") (tc "fs" ((tv "a") ∷ [])) (cn "nl" ((tv "a") ∷ [])) (codes
    "nl_resp"))
    ∷ untold (item_command (axiom_item (codes "nl_par") (ap (cn "all" ((fun (tv "l") (fun (tv "r")
    bool)) ∷ [])) (lm "x0" (fun (tv "l") (fun (tv "r") bool)) (ap (ap (ap (cn "list_all2" ((tv
    "l") ∷ (tv "r") ∷ [])) (bn "x0")) (cn "nl" ((tv "l") ∷ []))) (cn "nl" ((tv "r") ∷ [])))))))
    ∷ untold (param_rule_command (codes "fnil_par") (codes "fnil_transfer") (codes "nl_par"))
    ∷ [])
