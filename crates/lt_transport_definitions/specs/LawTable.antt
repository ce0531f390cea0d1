-- The table of the laws with their names, and the further statements. Their printed text shows it.
-- Source: this project's own; the further statements are Huffman and Kunčar's.
use Rattle.std.specs.Prelude.{List, [], ◌∷◌, ◌++◌, map, codes}
use Prim.Native.String.{String}
use Rattle.lt_definitions.specs.Types.{Chars, bool}
use Rattle.lt_definitions.specs.Terms.{constant}
use Rattle.lt_transport_definitions.specs.Notation.{WithType, ◌⇒◌, ◌~◌, ◌·◌, ◌⟶◌, lambda, each, equality_at}
use Rattle.lt_transport_definitions.specs.Letters.{a, b, c, d}
use Rattle.lt_transport_definitions.specs.Constants.{table_constant, apply, rel_fun, domainp}
use Rattle.lt_transport_definitions.specs.Relations.{Property, properties}
use Rattle.lt_transport_definitions.specs.Laws.{rel_fun_app, rel_fun_abs, rel_fun_eq, property_of_equality, id_quotient, fun_quotient, quotient_compose, quotient_lift, quotient_right_total, quotient_right_unique, quotient_rel, quotient_domain, typedef_quotient, typedef_bi_unique, typedef_domain, class_nonempty, class_quotient, quotient_rep, abs_eq_step, typedef_rep_abs, map_fun_apply, id_apply, relcompp_intro, relcompp_eq_left, relcompp_eq_right, relcompp_assoc, rel_fun_distr}

-- the name of the law that equality has a property
abbrev pub equality_law : Property → Chars
equality_law p = p ++ codes "_eq"

abbrev pub laws : List (Chars × WithType)
laws =
    (codes "rel_fun_app", rel_fun_app) ∷ (codes "rel_fun_abs", rel_fun_abs)
    ∷ (codes "rel_fun_eq", rel_fun_eq)
    ∷ map (λ p. (equality_law p, property_of_equality p)) properties
    ++ (codes "id_quotient", id_quotient) ∷ (codes "fun_quotient", fun_quotient)
    ∷ (codes "quotient_compose", quotient_compose)
    ∷ (codes "quotient_lift", quotient_lift) ∷ (codes "quotient_right_total", quotient_right_total)
    ∷ (codes "quotient_right_unique", quotient_right_unique) ∷ (codes "quotient_rel", quotient_rel)
    ∷ (codes "quotient_domain", quotient_domain)
    ∷ (codes "typedef_quotient", typedef_quotient) ∷ (codes "typedef_bi_unique", typedef_bi_unique)
    ∷ (codes "typedef_domain", typedef_domain)
    ∷ (codes "class_nonempty", class_nonempty) ∷ (codes "class_quotient", class_quotient)
    ∷ (codes "quotient_rep", quotient_rep)
    ∷ (codes "abs_eq_step", abs_eq_step) ∷ (codes "typedef_rep_abs", typedef_rep_abs)
    ∷ (codes "map_fun_apply", map_fun_apply)
    ∷ (codes "id_apply", id_apply) ∷ (codes "relcompp_intro", relcompp_intro)
    ∷ (codes "relcompp_eq_left", relcompp_eq_left)
    ∷ (codes "relcompp_eq_right", relcompp_eq_right) ∷ (codes "relcompp_assoc", relcompp_assoc)
    ∷ (codes "rel_fun_distr", rel_fun_distr) ∷ []

-- all A : a~b. p A --> b A
abbrev pub over_relation : String → (WithType → WithType) → WithType
over_relation p rule = each "A" (a ~ b) λ A. apply p (A ∷ []) ⟶ rule A

-- rel_fun A (rel_fun A eq) eq eq
abbrev pub eq_transfer : WithType
eq_transfer =
    over_relation "bi_unique" λ A.
    rel_fun A (rel_fun A (equality_at bool)) · equality_at a · equality_at b

-- rel_fun (rel_fun A eq) r q q, at quantifiers
abbrev pub related_quantifiers : WithType → WithType → WithType → WithType → WithType
related_quantifiers A r q p = rel_fun (rel_fun A (equality_at bool)) r · q · p

-- rel_fun (rel_fun A eq) eq all all
abbrev pub all_transfer : WithType
all_transfer =
    over_relation "bi_total" λ A.
    related_quantifiers A (equality_at bool) (table_constant "all" (a ∷ []))
    (table_constant "all" (b ∷ []))

-- rel_fun (rel_fun A eq) eq ex ex
abbrev pub ex_transfer : WithType
ex_transfer =
    over_relation "bi_total" λ A.
    related_quantifiers A (equality_at bool) (table_constant "ex" (a ∷ []))
    (table_constant "ex" (b ∷ []))

-- rel_fun (rel_fun A eq) eq (\P. all x. Domainp A x --> P x) all
abbrev pub all_bounded : WithType
all_bounded = over_relation "right_total" λ A. related_quantifiers A (equality_at bool)
    (lambda "P" (a ⇒ bool) λ P. each "x" a λ x. domainp A · x ⟶ P · x)
    (table_constant "all" (b ∷ []))

-- rel_fun (rel_fun A eq) imp all all
abbrev pub all_implies : WithType
all_implies =
    over_relation "right_total" λ A.
    related_quantifiers A (record { term = constant (codes "imp") []; ty = bool ~ bool })
    (table_constant "all" (a ∷ [])) (table_constant "all" (b ∷ []))

-- all A : a~b, B : c~d. p A --> q B --> r (rel_fun A B)
abbrev pub over_functions : String → String → String → WithType
over_functions p q r =
    each "A" (a ~ b) λ A. each "B" (c ~ d) λ B. apply p (A ∷ []) ⟶ apply q (B ∷ [])
    ⟶ apply r (rel_fun A B ∷ [])

-- How a further statement is registered.
pub data Registering : Type 0 where
  as_rule : Registering
  as_property : Registering
  unregistered : Registering

-- such a statement, which is registered as a property
abbrev pub function_property : (p q r : String) → Chars × WithType × Registering
function_property p q r = (codes "fun_" ++ codes r, over_functions p q r, as_property)

-- The further statements, in order, and how each is registered.
abbrev pub further_statements : List (Chars × WithType × Registering)
further_statements =
    (codes "eq_transfer", eq_transfer, as_rule) ∷ (codes "all_transfer", all_transfer, as_rule)
    ∷ (codes "ex_transfer", ex_transfer, as_rule)
    ∷ (codes "all_bounded", all_bounded, unregistered)
    ∷ (codes "all_implies", all_implies, unregistered)
    ∷ function_property "left_unique" "left_total" "left_total"
    ∷ function_property "right_unique" "right_total" "right_total"
    ∷ function_property "left_total" "left_unique" "left_unique"
    ∷ function_property "right_total" "right_unique" "right_unique"
    ∷ function_property "bi_unique" "bi_total" "bi_total"
    ∷ function_property "bi_total" "bi_unique" "bi_unique" ∷ []
