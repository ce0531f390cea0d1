-- How the laws of conjunction and existence are derived from the definitions of `and` and `ex`: rules
-- over one line that is given.
-- Source: this project's own.
use Rattle.std.specs.Prelude.{◌≡◌, List, [], ◌∷◌, Ok, codes}
use Rattle.lt_definitions.specs.Types.{bool, fun}
use Rattle.lt_definitions.specs.Typing.{Signature}
use Rattle.lt_definitions.specs.Rules.{Rule, by_assume, by_refl, by_sym, by_trans, by_cong, by_beta, by_eqmp, by_impI, by_mp, by_allI, by_allE, by_select}
use Rattle.lt_nameless.specs.Nameless.{Nameless, nameless_free, nameless_bound, nameless_application, nameless_abstraction}
use Rattle.lt_nameless.specs.NamelessRules.{nameless_equation, nameless_implies, nameless_for_all}
use Rattle.lt_programs.specs.Programs.{theorem, followed, AreGood}
use Rattle.lt_programs.specs.Connectives.{and_body, conjunction, ex_body, existence, chosen, both_give, any_type}

-- From |- p the rules derive |- q, and none has a fault.
pub record Derives (sig : Signature) (p : Nameless) (rules : List (Rule Nameless)) (q : Nameless) : Type 0 where
  pub good : AreGood sig rules
  pub gives : followed sig (theorem p ∷ []) rules ≡ Ok (theorem q)

-- boolean variables
abbrev pub p_variable : Nameless
p_variable = nameless_free (codes "p") bool

abbrev pub q_variable : Nameless
q_variable = nameless_free (codes "q") bool

abbrev pub r_variable : Nameless
r_variable = nameless_free (codes "r") bool

-- all r. (p --> q --> r) --> r, where no binder stands around it
abbrev pub every_result : Nameless → Nameless → Nameless
every_result p q = nameless_for_all bool (nameless_abstraction bool
    (nameless_implies (both_give p q (nameless_bound 0)) (nameless_bound 0)))

-- and p q = all r. (p --> q --> r) --> r
abbrev pub and_meaning : Nameless
and_meaning =
    nameless_equation bool (conjunction p_variable q_variable) (every_result p_variable q_variable)

abbrev pub and_unfolded : List (Rule Nameless)
and_unfolded =
    by_refl p_variable ∷ by_cong 1 2 ∷ by_beta (nameless_application and_body p_variable) ∷ by_trans 3 4
    ∷ by_refl q_variable ∷ by_cong 5 6
    ∷ by_beta (nameless_application (nameless_abstraction bool
    (every_result p_variable (nameless_bound 1))) q_variable) ∷ by_trans 7 8 ∷ []

-- p --> q --> r, over the variables
abbrev pub pq_give_r : Nameless
pq_give_r = both_give p_variable q_variable r_variable

abbrev pub and_introduced : List (Rule Nameless)
and_introduced =
    by_assume pq_give_r ∷ by_assume p_variable ∷ by_mp 2 3 ∷ by_assume q_variable ∷ by_mp 4 5
    ∷ by_impI pq_give_r 6 ∷ by_allI (codes "r") bool 7 ∷ by_sym 1 ∷ by_eqmp 9 8
    ∷ by_impI q_variable 10 ∷ by_impI p_variable 11
    ∷ by_allI (codes "q") bool 12 ∷ by_allI (codes "p") bool 13 ∷ []

-- from and p q: one of the two, where q --> it, and p --> q --> it
abbrev pub and_projected : Nameless → List (Rule Nameless)
and_projected side =
    by_assume (conjunction p_variable q_variable) ∷ by_eqmp 1 2 ∷ by_allE side 3
    ∷ by_assume side ∷ by_impI q_variable 5 ∷ by_impI p_variable 6 ∷ by_mp 4 7
    ∷ by_impI (conjunction p_variable q_variable) 8
    ∷ by_allI (codes "q") bool 9 ∷ by_allI (codes "p") bool 10 ∷ []

-- a predicate over 'a, and an element
abbrev pub predicate : Nameless
predicate = nameless_free (codes "P") (fun any_type bool)

abbrev pub element : Nameless
element = nameless_free (codes "x") any_type

-- all x. P x --> q, where P stands under no binder and q under that of x
abbrev pub all_give : Nameless → Nameless → Nameless
all_give p q = nameless_for_all any_type (nameless_abstraction any_type
    (nameless_implies (nameless_application p (nameless_bound 0)) q))

-- ex P = all q. (all x. P x --> q) --> q
abbrev pub ex_meaning : Nameless
ex_meaning =
    nameless_equation bool (existence any_type predicate)
    (nameless_for_all bool (nameless_abstraction bool
    (nameless_implies (all_give predicate (nameless_bound 1)) (nameless_bound 0))))

abbrev pub ex_unfolded : List (Rule Nameless)
ex_unfolded =
    by_refl predicate ∷ by_cong 1 2 ∷ by_beta (nameless_application ex_body predicate)
    ∷ by_trans 3 4 ∷ []

abbrev pub ex_introduced : List (Rule Nameless)
ex_introduced =
    by_assume (all_give predicate q_variable) ∷ by_allE element 2
    ∷ by_assume (nameless_application predicate element) ∷ by_mp 3 4
    ∷ by_impI (all_give predicate q_variable) 5 ∷ by_allI (codes "q") bool 6
    ∷ by_sym 1 ∷ by_eqmp 8 7 ∷ by_impI (nameless_application predicate element) 9
    ∷ by_allI (codes "x") any_type 10 ∷ by_allI (codes "P") (fun any_type bool) 11 ∷ []

abbrev pub ex_chosen : List (Rule Nameless)
ex_chosen =
    by_assume (existence any_type predicate) ∷ by_eqmp 1 2
    ∷ by_allE (nameless_application predicate (chosen any_type predicate)) 3
    ∷ by_select predicate ∷ by_mp 4 5 ∷ by_impI (existence any_type predicate) 6
    ∷ by_allI (codes "P") (fun any_type bool) 7 ∷ []
