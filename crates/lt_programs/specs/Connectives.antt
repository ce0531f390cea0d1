-- Conjunction and existence: the definitions of their constants, and what is derived from these.
-- Source: this project's own; the definitions are those of the impredicative encodings.
use Rattle.std.specs.Prelude.{List, [], ◌∷◌, Bool, false, ◌||◌, if◌then◌else◌, Option, Some, None, option_map, unwrap_or, codes}
use Rattle.lt_definitions.specs.Types.{Chars, same_name, found, TypeTree, type_variable, bool, fun}
use Rattle.lt_definitions.specs.Typing.{Signature}
use Rattle.lt_definitions.specs.Rules.{where_holds, with_found, predicate_over}
use Rattle.lt_definitions.specs.declared.reason.Reason.TheVariants.{UnknownLabel, TypeDiffers, MiddleDiffers}
use Rattle.lt_nameless.specs.Nameless.{Nameless, nameless_bound, nameless_constant, nameless_application, nameless_abstraction, NamelessSequent}
use Rattle.lt_nameless.specs.NamelessRules.{NamelessOutcome, same_nameless, nameless_has_type, nameless_type_of, nameless_equation, nameless_implies, nameless_for_all, nameless_at, nameless_union, nameless_gives}
use Rattle.lt_programs.specs.Openings.{for_alls}

-- and
abbrev pub and_constant : Nameless
and_constant = nameless_constant (codes "and") []

-- and p q
abbrev pub conjunction : Nameless → Nameless → Nameless
conjunction p q = nameless_application (nameless_application and_constant p) q

-- ex at a type
abbrev pub ex_constant : TypeTree → Nameless
ex_constant ty = nameless_constant (codes "ex") (ty ∷ [])

-- ex p, where p is a predicate over the type
abbrev pub existence : TypeTree → Nameless → Nameless
existence ty p = nameless_application (ex_constant ty) p

-- eps p
abbrev pub chosen : TypeTree → Nameless → Nameless
chosen ty p = nameless_application (nameless_constant (codes "eps") (ty ∷ [])) p

-- p --> q --> r
abbrev pub both_give : Nameless → Nameless → Nameless → Nameless
both_give p q r = nameless_implies p (nameless_implies q r)

-- and = \p q. all r. (p --> q --> r) --> r
abbrev pub and_body : Nameless
and_body =
    nameless_abstraction bool (nameless_abstraction bool
    (nameless_for_all bool (nameless_abstraction bool
    (nameless_implies (both_give (nameless_bound 2) (nameless_bound 1) (nameless_bound 0))
    (nameless_bound 0)))))

abbrev pub and_definition : Nameless
and_definition = nameless_equation (fun bool (fun bool bool)) and_constant and_body

-- the type variable 'a
abbrev pub any_type : TypeTree
any_type = type_variable (codes "a")

-- ex = \P. all q. (all x. P x --> q) --> q, over 'a
abbrev pub ex_body : Nameless
ex_body =
    nameless_abstraction (fun any_type bool)
    (nameless_for_all bool (nameless_abstraction bool
    (nameless_implies (nameless_for_all any_type (nameless_abstraction any_type
    (nameless_implies (nameless_application (nameless_bound 2) (nameless_bound 0))
    (nameless_bound 1)))) (nameless_bound 0))))

abbrev pub ex_definition : Nameless
ex_definition = nameless_equation (fun (fun any_type bool) bool) (ex_constant any_type) ex_body

-- all p q. p --> q --> and p q
abbrev pub conjunction_law : Nameless
conjunction_law =
    for_alls (bool ∷ bool ∷ []) (both_give (nameless_bound 1) (nameless_bound 0)
    (conjunction (nameless_bound 1) (nameless_bound 0)))

-- all p q. and p q --> p, and the same for q
abbrev pub left_law : Nameless
left_law =
    for_alls (bool ∷ bool ∷ []) (nameless_implies
    (conjunction (nameless_bound 1) (nameless_bound 0)) (nameless_bound 1))

abbrev pub right_law : Nameless
right_law =
    for_alls (bool ∷ bool ∷ []) (nameless_implies
    (conjunction (nameless_bound 1) (nameless_bound 0)) (nameless_bound 0))

-- all P x. P x --> ex P, over a type
abbrev pub existence_law : TypeTree → Nameless
existence_law ty =
    for_alls (fun ty bool ∷ ty ∷ []) (nameless_implies
    (nameless_application (nameless_bound 1) (nameless_bound 0)) (existence ty (nameless_bound 1)))

-- all P. ex P --> P (eps P), over a type
abbrev pub choice_law : TypeTree → Nameless
choice_law ty =
    for_alls (fun ty bool ∷ []) (nameless_implies (existence ty (nameless_bound 0))
    (nameless_application (nameless_bound 0) (chosen ty (nameless_bound 0))))

-- whether a label is that of this statement
abbrev pub is_stated : List (Chars × Nameless) → Chars → Nameless → Bool
is_stated named l p = unwrap_or (option_map (same_nameless p) (found l named)) false

-- what comes where the definition of `and`, or that of `ex`, is stated
abbrev pub with_and : List (Chars × Nameless) → NamelessOutcome → NamelessOutcome
with_and named o = where_holds (is_stated named (codes "and_def") and_definition) UnknownLabel o

abbrev pub with_ex : List (Chars × Nameless) → NamelessOutcome → NamelessOutcome
with_ex named o = where_holds (is_stated named (codes "ex_def") ex_definition) UnknownLabel o

-- from H |- p and K |- q: H and K |- and p q, each hypothesis once
abbrev pub conjoined : List (Chars × Nameless) → NamelessSequent → NamelessSequent → NamelessOutcome
conjoined named s u =
    with_and named (nameless_gives (nameless_union (nameless_union [] s.hyps) u.hyps)
    (conjunction s.concl u.concl))

-- the sides of a conjunction
abbrev pub as_conjunction : Nameless → Option (Nameless × Nameless)
as_conjunction (nameless_application (nameless_application (nameless_constant c []) p) q) =
    if same_name c (codes "and") then Some (p, q) else None
as_conjunction _ = None

-- from H |- and p q: H |- p, and H |- q; another conclusion than a conjunction is no premise
abbrev pub left_side : List (Chars × Nameless) → NamelessSequent → NamelessOutcome
left_side named s = with_and named (with_found MiddleDiffers (as_conjunction s.concl) (λ e.
    nameless_gives (nameless_union [] s.hyps) e.0))

abbrev pub right_side : List (Chars × Nameless) → NamelessSequent → NamelessOutcome
right_side named s = with_and named (with_found MiddleDiffers (as_conjunction s.concl) (λ e.
    nameless_gives (nameless_union [] s.hyps) e.1))

-- from H |- p t, or p opened by t: H |- ex p
abbrev pub exists_at : Signature → List (Chars × Nameless) → Nameless → Nameless → NamelessSequent
    → NamelessOutcome
exists_at sig named p t s =
    with_ex named (with_found TypeDiffers (predicate_over (nameless_type_of sig p)) (λ ty.
    where_holds (nameless_has_type sig t ty) TypeDiffers
    (where_holds (same_nameless (nameless_application p t) s.concl
    || same_nameless (nameless_at p t) s.concl) MiddleDiffers
    (nameless_gives (nameless_union [] s.hyps) (existence ty p)))))

-- the type and the predicate of an existence
abbrev pub as_existence : Nameless → Option (TypeTree × Nameless)
as_existence (nameless_application (nameless_constant c (ty ∷ [])) p) =
    if same_name c (codes "ex") then Some (ty, p) else None
as_existence _ = None

-- from H |- ex p: H |- p (eps p)
abbrev pub chosen_element : List (Chars × Nameless) → NamelessSequent → NamelessOutcome
chosen_element named s = with_ex named (with_found MiddleDiffers (as_existence s.concl) (λ e.
    nameless_gives (nameless_union [] s.hyps) (nameless_application e.1 (chosen e.0 e.1))))
