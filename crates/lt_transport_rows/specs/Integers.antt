-- Rows over integers as pairs.
-- Source: this project's own.
use Rattle.std.specs.Prelude.{List, [], ◌∷◌, Option, codes, ◌++◌}
use Rattle.lt_definitions.specs.Items.{const_item, axiom_item}
use Rattle.lt_texts.specs.Commands.{Command, item_command, lifting_command, quotient_type_command, lift_command, equiv_command, carry_command, abs_eq_command, rep_eq_command}
use Rattle.lt_transport_definitions.specs.Correspondence.{chosen_rule, chosen_application, chosen_abstraction, chosen_equality}
use Rattle.lt_transport_definitions.specs.Relations.{equality}
use Rattle.lt_transport_rows.specs.Beginnings.{pairs, integer, integer_quotient, integer_sums}
use Rattle.lt_transport_rows.specs.Computing.{Told, candidate, cn, ap, lm, untold, told}

-- integers as pairs: quotient type, lifted constant, transport, carrying back
abbrev pub integers : List (Command × Option Told)
integers = integer_sums

-- their code equations: that of abs, and none of rep
abbrev pub integer_equations : List (Command × Option Told)
integer_equations = integer_sums
    ++ (untold (abs_eq_command (codes "iadd"))
    ∷ untold (rep_eq_command (codes "iadd"))
    ∷ [])

-- a relation that nothing determines is equality
abbrev pub open_relation : List (Command × Option Told)
open_relation = integer_sums
    ++ (told (equiv_command (codes "u") (ap (cn "all" (integer ∷ [])) (lm "x0" integer (cn "true"
    [])))) (record {
      solution = λ s. (
        (chosen_application (chosen_rule (codes "all") (integer ∷
            []) 0 (candidate s "all" (integer ∷ []) 0)) (chosen_abstraction (codes "x0") integer
            (chosen_equality (codes "true") []))),
        (((equality integer) ∷ []), ((equality integer), tt)),
      );
      top = 0;
      image = (ap (cn "all" (integer ∷ [])) (lm "x0" integer (cn "true" [])));
      normal = (ap
          (cn "all" (integer ∷ [])) (lm "x0" integer (cn "true" [])));
    })
    ∷ [])

-- where the first rule of equality fails, the second is taken
abbrev pub later_candidates : List (Command × Option Told)
later_candidates = integer_sums
    ++ (untold (item_command (const_item (codes "pz") pairs))
    ∷ untold (item_command (axiom_item (codes "pz_resp") (ap (ap (cn "intrel" []) (cn "pz" [])) (cn
    "pz" []))))
    ∷ untold (lift_command (codes "z") integer (cn "pz" []) (codes "pz_resp"))
    ∷ told (equiv_command (codes "m") (ap (ap (cn "imp" []) (ap (ap (cn "eq" (integer ∷ [])) (cn "z"
    [])) (cn "z" []))) (ap (ap (cn "imp" []) (ap (ap (cn "eq" (integer ∷ [])) (cn "z" [])) (cn "z"
    []))) (ap (ap (cn "imp" []) (ap (ap (cn "eq" (integer ∷ [])) (cn "z" [])) (cn "z" []))) (ap
    (ap (cn "imp" []) (ap (ap (cn "eq" (integer ∷ [])) (cn "z" [])) (cn "z" []))) (ap (ap (cn
    "imp" []) (ap (ap (cn "eq" (integer ∷ [])) (cn "z" [])) (cn "z" []))) (ap (ap (cn "imp" [])
    (ap (ap (cn "eq" (integer ∷ [])) (cn "z" [])) (cn "z" []))) (ap (ap (cn "imp" []) (ap (ap (cn
    "eq" (integer ∷ [])) (cn "z" [])) (cn "z" []))) (ap (ap (cn "imp" []) (ap (ap (cn "eq"
    (integer ∷ [])) (cn "z" [])) (cn "z" []))) (ap (ap (cn "imp" []) (ap (ap (cn "eq" (integer ∷
    [])) (cn "z" [])) (cn "z" []))) (ap (ap (cn "imp" []) (ap (ap (cn "eq" (integer ∷ [])) (cn "z"
    [])) (cn "z" []))) (ap (ap (cn "imp" []) (ap (ap (cn "eq" (integer ∷ [])) (cn "z" [])) (cn "z"
    []))) (ap (ap (cn "imp" []) (ap (ap (cn "eq" (integer ∷ [])) (cn "z" [])) (cn "z" []))) (ap
    (ap (cn "imp" []) (ap (ap (cn "eq" (integer ∷ [])) (cn "z" [])) (cn "z" []))) (ap (ap (cn
    "imp" []) (ap (ap (cn "eq" (integer ∷ [])) (cn "z" [])) (cn "z" []))) (ap (ap (cn "imp" [])
    (ap (ap (cn "eq" (integer ∷ [])) (cn "z" [])) (cn "z" []))) (ap (ap (cn "imp" []) (ap (ap (cn
    "eq" (integer ∷ [])) (cn "z" [])) (cn "z" []))) (ap (ap (cn "imp" []) (ap (ap (cn "eq"
    (integer ∷ [])) (cn "z" [])) (cn "z" []))) (ap (ap (cn "imp" []) (ap (ap (cn "eq" (integer ∷
    [])) (cn "z" [])) (cn "z" []))) (ap (ap (cn "imp" []) (ap (ap (cn "eq" (integer ∷ [])) (cn "z"
    [])) (cn "z" []))) (ap (ap (cn "imp" []) (ap (ap (cn "eq" (integer ∷ [])) (cn "z" [])) (cn "z"
    []))) (ap (ap (cn "imp" []) (ap (ap (cn "eq" (integer ∷ [])) (cn "z" [])) (cn "z" []))) (ap
    (ap (cn "imp" []) (ap (ap (cn "eq" (integer ∷ [])) (cn "z" [])) (cn "z" []))) (ap (ap (cn
    "imp" []) (ap (ap (cn "eq" (integer ∷ [])) (cn "z" [])) (cn "z" []))) (ap (ap (cn "eq"
    (integer ∷ [])) (cn "z" [])) (cn "z" [])))))))))))))))))))))))))) (record {
      solution = λ s. (
        (chosen_application (chosen_application (chosen_equality (codes "imp") [])
            (chosen_application (chosen_application (chosen_rule (codes "eq") (integer ∷ []) 1 (candidate
            s "eq" (integer ∷ []) 1)) (chosen_rule (codes "z") [] 0 (candidate s "z" [] 0))) (chosen_rule
            (codes "z") [] 0 (candidate s "z" [] 0)))) (chosen_application (chosen_application
            (chosen_equality (codes "imp") []) (chosen_application (chosen_application (chosen_rule (codes
            "eq") (integer ∷ []) 1 (candidate s "eq" (integer ∷ []) 1)) (chosen_rule (codes "z") [] 0
            (candidate s "z" [] 0))) (chosen_rule (codes "z") [] 0 (candidate s "z" [] 0))))
            (chosen_application (chosen_application (chosen_equality (codes "imp") []) (chosen_application
            (chosen_application (chosen_rule (codes "eq") (integer ∷ []) 1 (candidate s "eq" (integer ∷
            []) 1)) (chosen_rule (codes "z") [] 0 (candidate s "z" [] 0))) (chosen_rule (codes "z") [] 0
            (candidate s "z" [] 0)))) (chosen_application (chosen_application (chosen_equality (codes
            "imp") []) (chosen_application (chosen_application (chosen_rule (codes "eq") (integer ∷ []) 1
            (candidate s "eq" (integer ∷ []) 1)) (chosen_rule (codes "z") [] 0 (candidate s "z" [] 0)))
            (chosen_rule (codes "z") [] 0 (candidate s "z" [] 0)))) (chosen_application
            (chosen_application (chosen_equality (codes "imp") []) (chosen_application (chosen_application
            (chosen_rule (codes "eq") (integer ∷ []) 1 (candidate s "eq" (integer ∷ []) 1)) (chosen_rule
            (codes "z") [] 0 (candidate s "z" [] 0))) (chosen_rule (codes "z") [] 0 (candidate s "z" []
            0)))) (chosen_application (chosen_application (chosen_equality (codes "imp") [])
            (chosen_application (chosen_application (chosen_rule (codes "eq") (integer ∷ []) 1 (candidate
            s "eq" (integer ∷ []) 1)) (chosen_rule (codes "z") [] 0 (candidate s "z" [] 0))) (chosen_rule
            (codes "z") [] 0 (candidate s "z" [] 0)))) (chosen_application (chosen_application
            (chosen_equality (codes "imp") []) (chosen_application (chosen_application (chosen_rule (codes
            "eq") (integer ∷ []) 1 (candidate s "eq" (integer ∷ []) 1)) (chosen_rule (codes "z") [] 0
            (candidate s "z" [] 0))) (chosen_rule (codes "z") [] 0 (candidate s "z" [] 0))))
            (chosen_application (chosen_application (chosen_equality (codes "imp") []) (chosen_application
            (chosen_application (chosen_rule (codes "eq") (integer ∷ []) 1 (candidate s "eq" (integer ∷
            []) 1)) (chosen_rule (codes "z") [] 0 (candidate s "z" [] 0))) (chosen_rule (codes "z") [] 0
            (candidate s "z" [] 0)))) (chosen_application (chosen_application (chosen_equality (codes
            "imp") []) (chosen_application (chosen_application (chosen_rule (codes "eq") (integer ∷ []) 1
            (candidate s "eq" (integer ∷ []) 1)) (chosen_rule (codes "z") [] 0 (candidate s "z" [] 0)))
            (chosen_rule (codes "z") [] 0 (candidate s "z" [] 0)))) (chosen_application
            (chosen_application (chosen_equality (codes "imp") []) (chosen_application (chosen_application
            (chosen_rule (codes "eq") (integer ∷ []) 1 (candidate s "eq" (integer ∷ []) 1)) (chosen_rule
            (codes "z") [] 0 (candidate s "z" [] 0))) (chosen_rule (codes "z") [] 0 (candidate s "z" []
            0)))) (chosen_application (chosen_application (chosen_equality (codes "imp") [])
            (chosen_application (chosen_application (chosen_rule (codes "eq") (integer ∷ []) 1 (candidate
            s "eq" (integer ∷ []) 1)) (chosen_rule (codes "z") [] 0 (candidate s "z" [] 0))) (chosen_rule
            (codes "z") [] 0 (candidate s "z" [] 0)))) (chosen_application (chosen_application
            (chosen_equality (codes "imp") []) (chosen_application (chosen_application (chosen_rule (codes
            "eq") (integer ∷ []) 1 (candidate s "eq" (integer ∷ []) 1)) (chosen_rule (codes "z") [] 0
            (candidate s "z" [] 0))) (chosen_rule (codes "z") [] 0 (candidate s "z" [] 0))))
            (chosen_application (chosen_application (chosen_equality (codes "imp") []) (chosen_application
            (chosen_application (chosen_rule (codes "eq") (integer ∷ []) 1 (candidate s "eq" (integer ∷
            []) 1)) (chosen_rule (codes "z") [] 0 (candidate s "z" [] 0))) (chosen_rule (codes "z") [] 0
            (candidate s "z" [] 0)))) (chosen_application (chosen_application (chosen_equality (codes
            "imp") []) (chosen_application (chosen_application (chosen_rule (codes "eq") (integer ∷ []) 1
            (candidate s "eq" (integer ∷ []) 1)) (chosen_rule (codes "z") [] 0 (candidate s "z" [] 0)))
            (chosen_rule (codes "z") [] 0 (candidate s "z" [] 0)))) (chosen_application
            (chosen_application (chosen_equality (codes "imp") []) (chosen_application (chosen_application
            (chosen_rule (codes "eq") (integer ∷ []) 1 (candidate s "eq" (integer ∷ []) 1)) (chosen_rule
            (codes "z") [] 0 (candidate s "z" [] 0))) (chosen_rule (codes "z") [] 0 (candidate s "z" []
            0)))) (chosen_application (chosen_application (chosen_equality (codes "imp") [])
            (chosen_application (chosen_application (chosen_rule (codes "eq") (integer ∷ []) 1 (candidate
            s "eq" (integer ∷ []) 1)) (chosen_rule (codes "z") [] 0 (candidate s "z" [] 0))) (chosen_rule
            (codes "z") [] 0 (candidate s "z" [] 0)))) (chosen_application (chosen_application
            (chosen_equality (codes "imp") []) (chosen_application (chosen_application (chosen_rule (codes
            "eq") (integer ∷ []) 1 (candidate s "eq" (integer ∷ []) 1)) (chosen_rule (codes "z") [] 0
            (candidate s "z" [] 0))) (chosen_rule (codes "z") [] 0 (candidate s "z" [] 0))))
            (chosen_application (chosen_application (chosen_equality (codes "imp") []) (chosen_application
            (chosen_application (chosen_rule (codes "eq") (integer ∷ []) 1 (candidate s "eq" (integer ∷
            []) 1)) (chosen_rule (codes "z") [] 0 (candidate s "z" [] 0))) (chosen_rule (codes "z") [] 0
            (candidate s "z" [] 0)))) (chosen_application (chosen_application (chosen_equality (codes
            "imp") []) (chosen_application (chosen_application (chosen_rule (codes "eq") (integer ∷ []) 1
            (candidate s "eq" (integer ∷ []) 1)) (chosen_rule (codes "z") [] 0 (candidate s "z" [] 0)))
            (chosen_rule (codes "z") [] 0 (candidate s "z" [] 0)))) (chosen_application
            (chosen_application (chosen_equality (codes "imp") []) (chosen_application (chosen_application
            (chosen_rule (codes "eq") (integer ∷ []) 1 (candidate s "eq" (integer ∷ []) 1)) (chosen_rule
            (codes "z") [] 0 (candidate s "z" [] 0))) (chosen_rule (codes "z") [] 0 (candidate s "z" []
            0)))) (chosen_application (chosen_application (chosen_equality (codes "imp") [])
            (chosen_application (chosen_application (chosen_rule (codes "eq") (integer ∷ []) 1 (candidate
            s "eq" (integer ∷ []) 1)) (chosen_rule (codes "z") [] 0 (candidate s "z" [] 0))) (chosen_rule
            (codes "z") [] 0 (candidate s "z" [] 0)))) (chosen_application (chosen_application
            (chosen_equality (codes "imp") []) (chosen_application (chosen_application (chosen_rule (codes
            "eq") (integer ∷ []) 1 (candidate s "eq" (integer ∷ []) 1)) (chosen_rule (codes "z") [] 0
            (candidate s "z" [] 0))) (chosen_rule (codes "z") [] 0 (candidate s "z" [] 0))))
            (chosen_application (chosen_application (chosen_equality (codes "imp") []) (chosen_application
            (chosen_application (chosen_rule (codes "eq") (integer ∷ []) 1 (candidate s "eq" (integer ∷
            []) 1)) (chosen_rule (codes "z") [] 0 (candidate s "z" [] 0))) (chosen_rule (codes "z") [] 0
            (candidate s "z" [] 0)))) (chosen_application (chosen_application (chosen_rule (codes "eq")
            (integer ∷ []) 1 (candidate s "eq" (integer ∷ []) 1)) (chosen_rule (codes "z") [] 0 (candidate
            s "z" [] 0))) (chosen_rule (codes "z") [] 0 (candidate s "z" [] 0)))))))))))))))))))))))))),
        (
          (tt, (([], []), [])),
          (
            (tt, (([], []), [])),
            (
              (tt, (([], []), [])),
              (
                (tt, (([], []), [])),
                (
                  (tt, (([], []), [])),
                  (
                    (tt, (([], []), [])),
                    (
                      (tt, (([], []), [])),
                      (
                        (tt, (([], []), [])),
                        (
                          (tt, (([], []), [])),
                          (
                            (tt, (([], []), [])),
                            (
                              (tt, (([], []), [])),
                              (
                                (tt, (([], []), [])),
                                (
                                  (tt, (([], []), [])),
                                  (
                                    (tt, (([], []), [])),
                                    (
                                      (tt, (([], []), [])),
                                      (
                                        (tt, (([], []), [])),
                                        (
                                          (tt, (([], []), [])),
                                          (
                                            (tt, (([], []), [])),
                                            (
                                              (tt, (([], []), [])),
                                              (
                                                (tt, (([], []), [])),
                                                (
                                                  (tt, (([], []), [])),
                                                  (
                                                    (tt, (([], []), [])),
                                                    (
                                                      (tt, (([], []), [])),
                                                      (
                                                        ([], []),
                                                        [],
                                                      ),
                                                    ),
                                                  ),
                                                ),
                                              ),
                                            ),
                                          ),
                                        ),
                                      ),
                                    ),
                                  ),
                                ),
                              ),
                            ),
                          ),
                        ),
                      ),
                    ),
                  ),
                ),
              ),
            ),
          ),
        ),
      );
      top = 0;
      image = (ap (ap (cn "imp" []) (ap (ap (cn "intrel" [])
          (cn "pz" [])) (cn "pz" []))) (ap (ap (cn "imp" []) (ap (ap (cn "intrel" []) (cn "pz" [])) (cn
          "pz" []))) (ap (ap (cn "imp" []) (ap (ap (cn "intrel" []) (cn "pz" [])) (cn "pz" []))) (ap (ap
          (cn "imp" []) (ap (ap (cn "intrel" []) (cn "pz" [])) (cn "pz" []))) (ap (ap (cn "imp" []) (ap
          (ap (cn "intrel" []) (cn "pz" [])) (cn "pz" []))) (ap (ap (cn "imp" []) (ap (ap (cn "intrel"
          []) (cn "pz" [])) (cn "pz" []))) (ap (ap (cn "imp" []) (ap (ap (cn "intrel" []) (cn "pz" []))
          (cn "pz" []))) (ap (ap (cn "imp" []) (ap (ap (cn "intrel" []) (cn "pz" [])) (cn "pz" []))) (ap
          (ap (cn "imp" []) (ap (ap (cn "intrel" []) (cn "pz" [])) (cn "pz" []))) (ap (ap (cn "imp" [])
          (ap (ap (cn "intrel" []) (cn "pz" [])) (cn "pz" []))) (ap (ap (cn "imp" []) (ap (ap (cn
          "intrel" []) (cn "pz" [])) (cn "pz" []))) (ap (ap (cn "imp" []) (ap (ap (cn "intrel" []) (cn
          "pz" [])) (cn "pz" []))) (ap (ap (cn "imp" []) (ap (ap (cn "intrel" []) (cn "pz" [])) (cn "pz"
          []))) (ap (ap (cn "imp" []) (ap (ap (cn "intrel" []) (cn "pz" [])) (cn "pz" []))) (ap (ap (cn
          "imp" []) (ap (ap (cn "intrel" []) (cn "pz" [])) (cn "pz" []))) (ap (ap (cn "imp" []) (ap (ap
          (cn "intrel" []) (cn "pz" [])) (cn "pz" []))) (ap (ap (cn "imp" []) (ap (ap (cn "intrel" [])
          (cn "pz" [])) (cn "pz" []))) (ap (ap (cn "imp" []) (ap (ap (cn "intrel" []) (cn "pz" [])) (cn
          "pz" []))) (ap (ap (cn "imp" []) (ap (ap (cn "intrel" []) (cn "pz" [])) (cn "pz" []))) (ap (ap
          (cn "imp" []) (ap (ap (cn "intrel" []) (cn "pz" [])) (cn "pz" []))) (ap (ap (cn "imp" []) (ap
          (ap (cn "intrel" []) (cn "pz" [])) (cn "pz" []))) (ap (ap (cn "imp" []) (ap (ap (cn "intrel"
          []) (cn "pz" [])) (cn "pz" []))) (ap (ap (cn "imp" []) (ap (ap (cn "intrel" []) (cn "pz" []))
          (cn "pz" []))) (ap (ap (cn "intrel" []) (cn "pz" [])) (cn "pz" [])))))))))))))))))))))))));
      normal = (ap (ap (cn "imp" []) (ap (ap (cn "intrel" []) (cn "pz" [])) (cn "pz" []))) (ap (ap
          (cn "imp" []) (ap (ap (cn "intrel" []) (cn "pz" [])) (cn "pz" []))) (ap (ap (cn "imp" []) (ap
          (ap (cn "intrel" []) (cn "pz" [])) (cn "pz" []))) (ap (ap (cn "imp" []) (ap (ap (cn "intrel"
          []) (cn "pz" [])) (cn "pz" []))) (ap (ap (cn "imp" []) (ap (ap (cn "intrel" []) (cn "pz" []))
          (cn "pz" []))) (ap (ap (cn "imp" []) (ap (ap (cn "intrel" []) (cn "pz" [])) (cn "pz" []))) (ap
          (ap (cn "imp" []) (ap (ap (cn "intrel" []) (cn "pz" [])) (cn "pz" []))) (ap (ap (cn "imp" [])
          (ap (ap (cn "intrel" []) (cn "pz" [])) (cn "pz" []))) (ap (ap (cn "imp" []) (ap (ap (cn
          "intrel" []) (cn "pz" [])) (cn "pz" []))) (ap (ap (cn "imp" []) (ap (ap (cn "intrel" []) (cn
          "pz" [])) (cn "pz" []))) (ap (ap (cn "imp" []) (ap (ap (cn "intrel" []) (cn "pz" [])) (cn "pz"
          []))) (ap (ap (cn "imp" []) (ap (ap (cn "intrel" []) (cn "pz" [])) (cn "pz" []))) (ap (ap (cn
          "imp" []) (ap (ap (cn "intrel" []) (cn "pz" [])) (cn "pz" []))) (ap (ap (cn "imp" []) (ap (ap
          (cn "intrel" []) (cn "pz" [])) (cn "pz" []))) (ap (ap (cn "imp" []) (ap (ap (cn "intrel" [])
          (cn "pz" [])) (cn "pz" []))) (ap (ap (cn "imp" []) (ap (ap (cn "intrel" []) (cn "pz" [])) (cn
          "pz" []))) (ap (ap (cn "imp" []) (ap (ap (cn "intrel" []) (cn "pz" [])) (cn "pz" []))) (ap (ap
          (cn "imp" []) (ap (ap (cn "intrel" []) (cn "pz" [])) (cn "pz" []))) (ap (ap (cn "imp" []) (ap
          (ap (cn "intrel" []) (cn "pz" [])) (cn "pz" []))) (ap (ap (cn "imp" []) (ap (ap (cn "intrel"
          []) (cn "pz" [])) (cn "pz" []))) (ap (ap (cn "imp" []) (ap (ap (cn "intrel" []) (cn "pz" []))
          (cn "pz" []))) (ap (ap (cn "imp" []) (ap (ap (cn "intrel" []) (cn "pz" [])) (cn "pz" []))) (ap
          (ap (cn "imp" []) (ap (ap (cn "intrel" []) (cn "pz" [])) (cn "pz" []))) (ap (ap (cn "intrel"
          []) (cn "pz" [])) (cn "pz" [])))))))))))))))))))))))));
    })
    ∷ [])

-- the block of a quotient type
abbrev pub integer_block : List (Command × Option Told)
integer_block = integer_quotient

-- a statement that uses no lifted constant
abbrev pub constant_body : List (Command × Option Told)
constant_body = integer_quotient
    ++ (told (equiv_command (codes "u") (ap (cn "all" (integer ∷ [])) (lm "x0" integer (cn "true"
    [])))) (record {
      solution = λ s. (
        (chosen_application (chosen_rule (codes "all") (integer ∷
            []) 0 (candidate s "all" (integer ∷ []) 0)) (chosen_abstraction (codes "x0") integer
            (chosen_equality (codes "true") []))),
        (((equality integer) ∷ []), ((equality integer), tt)),
      );
      top = 0;
      image = (ap (cn "all" (integer ∷ [])) (lm "x0" integer (cn "true" [])));
      normal = (ap
          (cn "all" (integer ∷ [])) (lm "x0" integer (cn "true" [])));
    })
    ∷ [])

-- a theorem that is none of a quotient
abbrev pub other_theorem : List (Command × Option Told)
other_theorem = integer_quotient
    ++ (untold (quotient_type_command (codes "int2") [] (cn "intrel" []) (codes "padd_comm"))
    ∷ [])

-- a second quotient of one constructor
abbrev pub second_quotient : List (Command × Option Told)
second_quotient = integer_quotient
    ++ (untold (lifting_command (codes "Quotient_int"))
    ∷ [])

-- a code equation of a constant that was not lifted
abbrev pub not_lifted : List (Command × Option Told)
not_lifted = integer_sums
    ++ (untold (abs_eq_command (codes "padd"))
    ∷ [])

-- carrying back by a statement that is not the image
abbrev pub other_image : List (Command × Option Told)
other_image = integer_sums
    ++ (untold (carry_command (codes "c2") (codes "comm") (codes "padd_resp"))
    ∷ [])
