-- The commands' table: for each command its own tests in order, and then what it adds and
-- registers. The tests of its parts and names stand before them.
-- Source: after the commands of Isabelle's Lifting and Transfer packages; the tests are this
-- project's own.
use Rattle.std.specs.Prelude.{[], ◌∷◌, not, map, codes, Option, unwrap_or, is_some, ◌++◌, nat_lt, option_map, ◌+◌, ◌||◌, length, nat_eq, position}
use Rattle.lt_definitions.specs.Types.{Chars, are_distinct, type_variables, type_instance}
use Rattle.lt_definitions.specs.Typing.{Signature}
use Rattle.lt_definitions.specs.Alpha.{is_alpha, is_same_up_to_types}
use Rattle.lt_transport_definitions.specs.Relations.{Relator, Registry, relator_for, property_rule_for, domain_rule_for, kind_of, is_constructor, any_part, Sides}
use Rattle.lt_transport_definitions.specs.Answers.{wrong_where}
use Rattle.lt_transport_definitions.specs.Reading.{prefix_of, body_of}
use Rattle.lt_definitions.specs.Terms.{term_names}
use Rattle.lt_transport_definitions.specs.Forms.{declared_correspondence, property_form, domain_form, is_over_variables, are_among}
use Rattle.lt_transport_definitions.specs.RuleForm.{rule_form, conditioned}
use Rattle.lt_transport_definitions.specs.RelatorForm.{relator_form}
use Rattle.lt_transport_definitions.specs.LawTable.{equality_law}
use Rattle.lt_transport_definitions.specs.LawTexts.{law_statement, laws_of_lifting, laws_of_lifting_typedef, laws_of_quotient_type, laws_of_lift, laws_of_parametric, laws_of_param_rule}
use Rattle.lt_transport_definitions.specs.Sessions.{Session, signature_of, transport_of, typedef_of, quotient_of, constant_name, Four}
use Rattle.lt_transport_definitions.specs.Commands.{CommandRefusal, because, Registration, law_registered, corr_registered, relator_registered, property_registered, domain_registered, rule_registered, as_item, a_lemma, this_item}
use Rattle.lt_transport_definitions.specs.Rows.{Row, ◌⊳◌, with_value, with_form, adds, with_statement, law_test, registered_test, item_test, lemma_of, with_its_type, with_quotient}
use Rattle.std.specs.Fmt.{decimal}
use Rattle.lt_definitions.specs.Theory.{unknown_statement, closed_test, typedef_shape, variables_test, refusal}
use Rattle.lt_definitions.specs.Printing.{printed_term, printed_type}
use Rattle.lt_transport_definitions.specs.Search.{equal, implied}
use Rattle.lt_transport_definitions.specs.Notation.{WithType, ◌·◌}
use Rattle.lt_transport_definitions.specs.Constants.{apply, is_counted}
use Rattle.lt_transport_definitions.specs.Parts.{tail_names, name_test}
use Rattle.lt_transport_definitions.specs.QuotientBlocks.{as_quotient, is_in_order, bare_test, not_quotient, quotient_test, self_related, tail_block, tail_registrations}
use Rattle.lt_transport_definitions.specs.Quotients.{Quot}
use Rattle.lt_transport_definitions.specs.QuotientTerms.{abs_type_of, four_of, result_quotient}
use Rattle.lt_transport_definitions.specs.RawRelators.{unrelated, holds_function_relator, function_parts, has_fixed_types}
use Rattle.lt_texts.specs.Commands.{Command, item_command, law_command, corr_command, relator_command, property_command, domain_command, rule_command, lifting_command, lifting_typedef_command, quotient_type_command, lift_command, parametric_command, param_rule_command, equiv_command, implies_command, carry_command, abs_eq_command, rep_eq_command}
use Rattle.lt_transport_definitions.specs.TransportRows.{transport_row}
use Rattle.lt_transport_definitions.specs.QuotientRows.{raw_of, typedef_entry, adds_typedef_quotient, is_relation_on_one, class_entry, classes_of, adds_class_quotient}
use Rattle.lt_transport_definitions.specs.LiftRows.{respect_goal, adds_lifted, abs_equation, rep_equation, has_rep_equation, with_lifted}
use Rattle.lt_transport_definitions.specs.ParamRows.{numbered_by, parameters_of, form_body, adds_form, not_parametric, down_statement, up_statement}

abbrev pub registers : Registration → Row
registers r = adds [] (r ∷ [])

abbrev pub relator_shape : Chars → CommandRefusal
relator_shape part = because "RelatorShape" (part ∷ [])

abbrev pub rule_shape : Chars → CommandRefusal
rule_shape part = because "RuleShape" (part ∷ [])

abbrev pub constructor_test : Registry → Chars → Option CommandRefusal
constructor_test G c = registered_test (is_constructor (kind_of G c)) c

abbrev pub row_of : Session → Command → Row
row_of s (item_command i) = item_test (refusal s.context i) ⊳ adds (this_item i ∷ []) []
row_of s (law_command w l) =
    with_statement s l λ t.
    with_value (law_statement w) (because "UnknownLaw" (w ∷ [])) λ law.
    wrong_where (not (is_alpha t law)) (because "LawDiffers" (w ∷ [])) ⊳
    registers (law_registered w l)
row_of s (corr_command c) =
    with_value (declared_correspondence (signature_of s) c) (relator_shape (codes "Corr")) λ d.
    constructor_test s.registry c ⊳
    registers (corr_registered d)
row_of s (relator_command K R M E Q O) =
    let r : Relator = record { con = K; rel = R; mapping = M; eq = E; quot = Q; comp = O } in
    with_statement s E λ eq.
    with_statement s Q λ quot.
    with_statement s O λ comp.
    with_form (relator_form (signature_of s) r eq quot comp) relator_shape λ relator.
    registered_test (is_some (relator_for s.registry K)) K ⊳
    constructor_test s.registry R ⊳
    registers (relator_registered relator)
row_of s (property_command l) =
    with_statement s l λ t.
    with_form (property_form (signature_of s) s.registry l t)
    (λ part. because "PropertyShape" (part ∷ [])) λ rule.
    wrong_where (is_some (property_rule_for s.registry rule.property rule.head))
    (because "DuplicateProperty" (rule.property ∷ rule.head ∷ [])) ⊳
    registers (property_registered rule)
row_of s (domain_command l) =
    with_statement s l λ t.
    with_value (domain_form (signature_of s) s.registry l t) (because "DomainShape" []) λ rule.
    wrong_where (is_some (domain_rule_for s.registry rule.head))
    (because "DuplicateDomain" (rule.head ∷ [])) ⊳
    registers (domain_registered rule)
row_of s (rule_command l) =
    with_statement s l λ t.
    with_form (rule_form (signature_of s) s.registry l t) rule_shape λ rule.
    law_test s (map (λ side. equality_law side.0) rule.sides) ⊳
    registers (rule_registered l)
row_of s (lifting_command l) =
    let sig : Signature = signature_of s in
    with_statement s l λ t.
    law_test s laws_of_lifting ⊳
    with_value (as_quotient sig l t) (not_quotient "shape") λ e.
    let domain : WithType = self_related e.raw_type e.four.rel in
    quotient_test (is_over_variables e.abs_type) "abstract" ⊳
    with_value (declared_correspondence sig (constant_name e.four.corr.term))
    (not_quotient "relation") λ d.
    quotient_test (are_among (term_names e.four.rel.term) (term_names e.four.corr.term))
    "relation" ⊳
    quotient_test (is_in_order sig e.raw_type e.abs_type) "order" ⊳
    bare_test e.raw_type ⊳
    registered_test (is_some (quotient_of s.quotients e.con)) e.con ⊳
    item_test (name_test s.context (tail_names e.con)) ⊳
    adds (tail_block e domain) (tail_registrations e d domain)
row_of s (lifting_typedef_command q) =
    law_test s laws_of_lifting_typedef ⊳
    with_value (typedef_of s.typedefs q) (not_quotient "shape") λ typed_by.
    let P : WithType = with_its_type (signature_of s) typed_by.predicate in
    bare_test (raw_of P) ⊳
    adds_typedef_quotient (typedef_entry q typed_by P) P
row_of s (quotient_type_command q params r l) =
    let R : WithType = with_its_type (signature_of s) r in
    with_statement s l λ t.
    law_test s laws_of_quotient_type ⊳
    item_test (closed_test r) ⊳
    quotient_test (is_relation_on_one R.ty) "relation" ⊳
    quotient_test (is_alpha t ((apply "part_equivp" (R ∷ [])).term)) "shape" ⊳
    bare_test (raw_of R) ⊳
    item_test (variables_test params (classes_of R).term) ⊳
    item_test (wrong_where (not (are_distinct params)) typedef_shape) ⊳
    adds_class_quotient params (class_entry q params R)
row_of s (lift_command n ty t l) =
    let raw : WithType = with_its_type (signature_of s) t in
    with_statement s l λ respects.
    law_test s laws_of_lift ⊳
    item_test (closed_test t) ⊳
    with_quotient ty raw.ty λ q.
    let four : Four = four_of s.registry q in
    item_test (variables_test (type_variables ty) ((four.abs · raw).term)) ⊳
    wrong_where (not (is_alpha respects (respect_goal four raw)))
    (because "RespectDiffers" (printed_term [] (respect_goal four raw) ∷ [])) ⊳
    adds_lifted s n ty raw l four
row_of s (parametric_command q) =
    law_test s laws_of_parametric ⊳
    with_value (quotient_of s.quotients q) (not_parametric q) λ e.
    wrong_where (nat_eq (length (parameters_of e)) 0
    || not (is_counted (signature_of s) (codes "relcompp"))) (not_parametric q) ⊳
    option_map (λ ty. not_parametric (printed_type ty))
    (unrelated s.registry (type_instance (numbered_by "r" (parameters_of e)) e.raw_type)) ⊳
    adds_form q e (form_body s.registry e)
row_of s (param_rule_command n l m) =
    with_statement s l λ t.
    with_statement s m λ u.
    law_test s laws_of_param_rule ⊳
    with_form (rule_form (signature_of s) s.registry l t) rule_shape λ rule.
    let sides : Sides =
    (conditioned (signature_of s) (unwrap_or (prefix_of u) []) (body_of u)).0 in
    wrong_where (nat_lt 0 (length rule.variables)) (rule_shape (codes "Prefix")) ⊳
    option_map (λ i. because "HigherOrderArgument" (decimal (i + 1) ∷ []))
    (position (holds_function_relator s.registry) (function_parts rule.relation)) ⊳
    wrong_where (any_part has_fixed_types rule.relation) (rule_shape (codes "Types")) ⊳
    wrong_where (not
    (is_same_up_to_types u ((down_statement (signature_of s) s.registry rule sides).term)))
    (rule_shape (codes "Relation")) ⊳
    adds (lemma_of n (up_statement (signature_of s) s.registry rule sides) ∷ [])
    (rule_registered n ∷ [])
row_of s (equiv_command n t) = transport_row s n equal t
row_of s (implies_command n t) = transport_row s n implied t
row_of s (carry_command n e l) =
    with_value (transport_of s.transports e) (as_item (unknown_statement e)) λ transport.
    with_statement s l λ t.
    wrong_where (not (is_alpha t transport.image))
    (because "ImageDiffers" (printed_term [] transport.image ∷ [])) ⊳
    adds (a_lemma n transport.given ∷ []) []
row_of s (abs_eq_command c) =
    with_lifted s c λ lifted t q.
    adds (lemma_of (c ++ codes "_abs_eq") (abs_equation s.registry lifted t q) ∷ []) []
row_of s (rep_eq_command c) =
    with_lifted s c λ lifted t q.
    let result : Quot = result_quotient q in
    wrong_where (not (has_rep_equation result))
    (because "NoRepEquation" (printed_type (abs_type_of (four_of s.registry result)) ∷ [])) ⊳
    adds (lemma_of (c ++ codes "_rep_eq") (rep_equation s.registry lifted t q) ∷ []) []
