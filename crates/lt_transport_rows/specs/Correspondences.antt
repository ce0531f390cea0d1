-- Rows over declared correspondences, and over a typedef.
-- Source: this project's own.
use Rattle.std.specs.Prelude.{List, [], ◌∷◌, Option, codes, ◌++◌}
use Rattle.lt_definitions.specs.Types.{bool, fun}
use Rattle.lt_definitions.specs.Items.{type_item, const_item, axiom_item, typedef_item}
use Rattle.lt_texts.specs.Commands.{Command, item_command, rule_command, lift_command, equiv_command, rep_eq_command, law_command, corr_command, property_command, lifting_typedef_command, implies_command}
use Rattle.lt_transport_definitions.specs.Correspondence.{chosen_name, chosen_rule, chosen_application, chosen_abstraction, chosen_equality}
use Rattle.lt_transport_definitions.specs.Relations.{constructed, no_relations, equality}
use Rattle.lt_transport_rows.specs.Beginnings.{number, raw, abstract, two_relations, one_correspondence, bounded_quantifiers, right_total_registered}
use Rattle.lt_transport_rows.specs.Computing.{Told, candidate, tc, cn, bn, ap, lm, untold, told, fr}

-- a constant without rules is related to itself
abbrev pub a_constant : List (Command × Option Told)
a_constant = untold (item_command (const_item (codes "p") bool))
    ∷ told (equiv_command (codes "e") (cn "p" [])) (record {
      solution = λ s. (
        (chosen_equality
            (codes "p") []),
        tt,
      );
      top = 0;
      image = (cn "p" []);
      normal = (cn "p" []);
    })
    ∷ []

-- a statement with a redex: the image is its normal form
abbrev pub a_redex : List (Command × Option Told)
a_redex = untold (item_command (const_item (codes "p") bool))
    ∷ told (equiv_command (codes "e") (ap (lm "x0" bool (ap (ap (cn "imp" []) (bn "x0")) (bn "x0")))
    (cn "p" []))) (record {
      solution = λ s. (
        (chosen_application (chosen_abstraction (codes "x0")
            bool (chosen_application (chosen_application (chosen_equality (codes "imp") []) (chosen_name
            (codes "x0"))) (chosen_name (codes "x0")))) (chosen_equality (codes "p") [])),
        (
          (
            (equality
                bool),
            ((tt, tt), tt),
          ),
          tt,
        ),
      );
      top = 0;
      image = (ap (lm "x0" bool (ap (ap (cn "imp" []) (bn
          "x0")) (bn "x0"))) (cn "p" []));
      normal = (ap (ap (cn "imp" []) (cn "p" [])) (cn "p" []));
    })
    ∷ []

-- no law has the name
abbrev pub unknown_law : List (Command × Option Told)
unknown_law = untold (law_command (codes "nothing") (codes "rel_fun_app"))
    ∷ []

-- two rules whose relations differ: no transport (the last command, which the runs leave off, is refused)
abbrev pub other_relations : List (Command × Option Told)
other_relations = two_relations
    ++ (untold (item_command (axiom_item (codes "ps") (ap (ap (ap (ap (cn "rel_fun" (raw ∷ abstract ∷
    bool ∷ bool ∷ [])) (cn "r2" [])) (cn "eq" (bool ∷ []))) (cn "p" [])) (cn "s" []))))
    ∷ untold (rule_command (codes "ps"))
    ∷ [])

-- the same rules over one relation
abbrev pub one_relation : List (Command × Option Told)
one_relation = two_relations
    ++ (untold (item_command (axiom_item (codes "ps") (ap (ap (ap (ap (cn "rel_fun" (raw ∷ abstract ∷
    bool ∷ bool ∷ [])) (cn "r" [])) (cn "eq" (bool ∷ []))) (cn "p" [])) (cn "s" []))))
    ∷ untold (rule_command (codes "ps"))
    ∷ told (equiv_command (codes "n") (ap (cn "s" []) (cn "z" []))) (record {
      solution = λ s. (
        (chosen_application (chosen_rule (codes "s") [] 0 (candidate s "s" [] 0)) (chosen_rule (codes
            "z") [] 0 (candidate s "z" [] 0))),
        ([], []),
      );
      top = 0;
      image = (ap (cn "p" []) (cn "a" []));
      normal = (ap (cn "p" []) (cn "a" []));
    })
    ∷ [])

-- the text of size 2, as commands
abbrev pub two_generated : List (Command × Option Told)
two_generated = one_correspondence
    ++ (untold (item_command (const_item (codes "a") raw))
    ∷ untold (item_command (const_item (codes "z") abstract))
    ∷ untold (item_command (const_item (codes "f") (fun raw raw)))
    ∷ untold (item_command (const_item (codes "g") (fun abstract abstract)))
    ∷ untold (item_command (const_item (codes "p") (fun raw bool)))
    ∷ untold (item_command (const_item (codes "s") (fun abstract bool)))
    ∷ untold (item_command (axiom_item (codes "az") (ap (ap (cn "r" []) (cn "a" [])) (cn "z" []))))
    ∷ untold (rule_command (codes "az"))
    ∷ untold (item_command (axiom_item (codes "fg") (ap (ap (ap (ap (cn "rel_fun" (raw ∷ abstract ∷
    raw ∷ abstract ∷ [])) (cn "r" [])) (cn "r" [])) (cn "f" [])) (cn "g" []))))
    ∷ untold (rule_command (codes "fg"))
    ∷ untold (item_command (axiom_item (codes "ps") (ap (ap (ap (ap (cn "rel_fun" (raw ∷ abstract ∷
    bool ∷ bool ∷ [])) (cn "r" [])) (cn "eq" (bool ∷ []))) (cn "p" [])) (cn "s" []))))
    ∷ untold (rule_command (codes "ps"))
    ∷ told (equiv_command (codes "t1") (ap (cn "s" []) (ap (cn "g" []) (cn "z" [])))) (record {
      solution = λ s. (
        (chosen_application (chosen_rule (codes "s") [] 0 (candidate s "s" [] 0))
            (chosen_application (chosen_rule (codes "g") [] 0 (candidate s "g" [] 0)) (chosen_rule (codes
            "z") [] 0 (candidate s "z" [] 0)))),
        ([], ([], [])),
      );
      top = 0;
      image = (ap (cn "p" []) (ap (cn
          "f" []) (cn "a" [])));
      normal = (ap (cn "p" []) (ap (cn "f" []) (cn "a" [])));
    })
    ∷ told (equiv_command (codes "t2") (ap (cn "s" []) (ap (cn "g" []) (ap (cn "g" []) (cn "z"
    []))))) (record {
      solution = λ s. (
        (chosen_application (chosen_rule (codes "s") [] 0
            (candidate s "s" [] 0)) (chosen_application (chosen_rule (codes "g") [] 0 (candidate s "g" []
            0)) (chosen_application (chosen_rule (codes "g") [] 0 (candidate s "g" [] 0)) (chosen_rule
            (codes "z") [] 0 (candidate s "z" [] 0))))),
        ([], ([], ([], []))),
      );
      top = 0;
      image = (ap (cn
          "p" []) (ap (cn "f" []) (ap (cn "f" []) (cn "a" []))));
      normal = (ap (cn "p" []) (ap (cn "f"
          []) (ap (cn "f" []) (cn "a" []))));
    })
    ∷ [])

-- a second rule for one property of one constructor
abbrev pub second_property : List (Command × Option Told)
second_property = untold (property_command (codes "fun_bi_total"))
    ∷ []

-- a rule whose statement is no application to two arguments
abbrev pub no_rule_head : List (Command × Option Told)
no_rule_head = untold (item_command (const_item (codes "p") bool))
    ∷ untold (item_command (axiom_item (codes "b") (cn "p" [])))
    ∷ untold (rule_command (codes "b"))
    ∷ []

-- a correspondence of a type that is no relation
abbrev pub no_relation_type : List (Command × Option Told)
no_relation_type = untold (item_command (const_item (codes "r") bool))
    ∷ untold (corr_command (codes "r"))
    ∷ []

-- a bounded quantifier
abbrev pub bounded : List (Command × Option Told)
bounded = right_total_registered
    ++ (untold (rule_command (codes "all_bounded"))
    ∷ told (equiv_command (codes "b") (ap (cn "all" (abstract ∷ [])) (lm "x0" abstract (ap (cn "s"
    []) (bn "x0"))))) (record {
      solution = λ s. (
        (chosen_application (chosen_rule (codes "all")
            (abstract ∷ []) 1 (candidate s "all" (abstract ∷ []) 1)) (chosen_abstraction (codes "x0")
            abstract (chosen_application (chosen_rule (codes "s") [] 0 (candidate s "s" [] 0))
            (chosen_name (codes "x0"))))),
        (
          ((constructed (codes "r") [] no_relations) ∷ []),
          ((constructed (codes "r") [] no_relations), ([], tt)),
        ),
      );
      top = 0;
      image = (ap (lm "x0" (fun
          raw bool) (ap (cn "all" (raw ∷ [])) (lm "x1" raw (ap (ap (cn "imp" []) (ap (ap (cn "Domainp"
          (raw ∷ abstract ∷ [])) (cn "r" [])) (bn "x1"))) (ap (bn "x0") (bn "x1")))))) (lm "x0" raw (ap
          (cn "p" []) (bn "x0"))));
      normal = (ap (cn "all" (raw ∷ [])) (lm "x0" raw (ap (ap (cn "imp"
          []) (ap (ap (cn "Domainp" (raw ∷ abstract ∷ [])) (cn "r" [])) (bn "x0"))) (ap (cn "p" []) (bn
          "x0")))));
    })
    ∷ [])

-- no rule for the quantifier fits without right_total
abbrev pub unbounded : List (Command × Option Told)
unbounded = bounded_quantifiers
    ++ (untold (rule_command (codes "all_bounded"))
    ∷ [])

-- an implied statement, the bounded rule first
abbrev pub implied : List (Command × Option Told)
implied = right_total_registered
    ++ (untold (rule_command (codes "all_bounded"))
    ∷ untold (rule_command (codes "all_implies"))
    ∷ told (implies_command (codes "i") (ap (cn "all" (abstract ∷ [])) (lm "x0" abstract (ap (cn "s"
    []) (bn "x0"))))) (record {
      solution = λ s. (
        (chosen_application (chosen_rule (codes "all")
            (abstract ∷ []) 1 (candidate s "all" (abstract ∷ []) 1)) (chosen_abstraction (codes "x0")
            abstract (chosen_application (chosen_rule (codes "s") [] 0 (candidate s "s" [] 0))
            (chosen_name (codes "x0"))))),
        (
          ((constructed (codes "r") [] no_relations) ∷ []),
          ((constructed (codes "r") [] no_relations), ([], tt)),
        ),
      );
      top = 1;
      image = (ap (lm "x0" (fun
          raw bool) (ap (cn "all" (raw ∷ [])) (lm "x1" raw (ap (ap (cn "imp" []) (ap (ap (cn "Domainp"
          (raw ∷ abstract ∷ [])) (cn "r" [])) (bn "x1"))) (ap (bn "x0") (bn "x1")))))) (lm "x0" raw (ap
          (cn "p" []) (bn "x0"))));
      normal = (ap (cn "all" (raw ∷ [])) (lm "x0" raw (ap (ap (cn "imp"
          []) (ap (ap (cn "Domainp" (raw ∷ abstract ∷ [])) (cn "r" [])) (bn "x0"))) (ap (cn "p" []) (bn
          "x0")))));
    })
    ∷ [])

-- the same with the implied rule first
abbrev pub implied_first : List (Command × Option Told)
implied_first = right_total_registered
    ++ (untold (rule_command (codes "all_implies"))
    ∷ untold (rule_command (codes "all_bounded"))
    ∷ told (implies_command (codes "i") (ap (cn "all" (abstract ∷ [])) (lm "x0" abstract (ap (cn "s"
    []) (bn "x0"))))) (record {
      solution = λ s. (
        (chosen_application (chosen_rule (codes "all")
            (abstract ∷ []) 1 (candidate s "all" (abstract ∷ []) 1)) (chosen_abstraction (codes "x0")
            abstract (chosen_application (chosen_rule (codes "s") [] 0 (candidate s "s" [] 0))
            (chosen_name (codes "x0"))))),
        (
          ((constructed (codes "r") [] no_relations) ∷ []),
          ((constructed (codes "r") [] no_relations), ([], tt)),
        ),
      );
      top = 0;
      image = (ap (cn "all" (raw ∷
          [])) (lm "x0" raw (ap (cn "p" []) (bn "x0"))));
      normal = (ap (cn "all" (raw ∷ [])) (lm "x0"
          raw (ap (cn "p" []) (bn "x0"))));
    })
    ∷ [])

-- a statement with a free variable
abbrev pub open_statement : List (Command × Option Told)
open_statement = untold (equiv_command (codes "o") (fr "x" bool))
    ∷ []

-- a typedef: equivalence, implication, and the equation of rep
abbrev pub subset : List (Command × Option Told)
subset = untold (item_command (type_item (codes "nat") 0))
    ∷ untold (item_command (const_item (codes "z") number))
    ∷ untold (item_command (const_item (codes "P") (fun number bool)))
    ∷ untold (item_command (const_item (codes "h") (fun number bool)))
    ∷ untold (item_command (axiom_item (codes "Pz") (ap (cn "P" []) (cn "z" []))))
    ∷ untold (item_command (typedef_item (codes "t") [] (cn "P" []) (codes "Pz") (codes "abs_t")
    (codes "rep_t")))
    ∷ untold (lifting_typedef_command (codes "t"))
    ∷ untold (item_command (axiom_item (codes "k_resp") (ap (ap (ap (ap (cn "rel_fun" (number ∷
    number ∷ bool ∷ bool ∷ [])) (ap (cn "eq_onp" (number ∷ [])) (cn "P" []))) (cn "eq" (bool ∷
    []))) (cn "h" [])) (cn "h" []))))
    ∷ untold (lift_command (codes "k") (fun (tc "t" []) bool) (cn "h" []) (codes "k_resp"))
    ∷ untold (rule_command (codes "all_implies"))
    ∷ untold (rule_command (codes "all_bounded"))
    ∷ told (equiv_command (codes "e") (ap (cn "all" ((tc "t" []) ∷ [])) (lm "x0" (tc "t" []) (ap (cn
    "k" []) (bn "x0"))))) (record {
      solution = λ s. (
        (chosen_application (chosen_rule (codes
            "all") ((tc "t" []) ∷ []) 2 (candidate s "all" ((tc "t" []) ∷ []) 2)) (chosen_abstraction
            (codes "x0") (tc "t" []) (chosen_application (chosen_rule (codes "k") [] 0 (candidate s "k" []
            0)) (chosen_name (codes "x0"))))),
        (
          ((constructed (codes "cr_t") [] no_relations) ∷ []),
          ((constructed (codes "cr_t") [] no_relations), ([], tt)),
        ),
      );
      top = 0;
      image = (ap (lm "x0" (fun
          number bool) (ap (cn "all" (number ∷ [])) (lm "x1" number (ap (ap (cn "imp" []) (ap (cn "P"
          []) (bn "x1"))) (ap (bn "x0") (bn "x1")))))) (lm "x0" number (ap (cn "h" []) (bn "x0"))));
      normal = (ap (cn "all" (number ∷ [])) (lm "x0" number (ap (ap (cn "imp" []) (ap (cn "P" [])
          (bn "x0"))) (ap (cn "h" []) (bn "x0")))));
    })
    ∷ told (implies_command (codes "i") (ap (cn "all" ((tc "t" []) ∷ [])) (lm "x0" (tc "t" []) (ap
    (cn "k" []) (bn "x0"))))) (record {
      solution = λ s. (
        (chosen_application (chosen_rule (codes
            "all") ((tc "t" []) ∷ []) 1 (candidate s "all" ((tc "t" []) ∷ []) 1)) (chosen_abstraction
            (codes "x0") (tc "t" []) (chosen_application (chosen_rule (codes "k") [] 0 (candidate s "k" []
            0)) (chosen_name (codes "x0"))))),
        (
          ((constructed (codes "cr_t") [] no_relations) ∷ []),
          ((constructed (codes "cr_t") [] no_relations), ([], tt)),
        ),
      );
      top = 0;
      image = (ap (cn "all"
          (number ∷ [])) (lm "x0" number (ap (cn "h" []) (bn "x0"))));
      normal = (ap (cn "all" (number ∷
          [])) (lm "x0" number (ap (cn "h" []) (bn "x0"))));
    })
    ∷ untold (rep_eq_command (codes "k"))
    ∷ []
