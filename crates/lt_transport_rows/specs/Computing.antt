-- Commands computed one after another, for examples: where a row asks for a quotient it is looked
-- for to a depth, and where it asks for an image that image is told. No definition and no contract
-- cites this file; it is checked against the definitions nowhere but by use.
-- Source: this project's own.
use Rattle.std.specs.Prelude.{ℕ, zero, suc, List, [], ◌∷◌, ◌++◌, Bool, true, false, ◌&&◌, ◌||◌, if◌then◌else◌, slice_get, Option, Some, None, Ok, Err, codes, length, nat_eq, nat_lt, unwrap_or, option_map}
use Rattle.std.specs.List.{list_all}
use Prim.Native.String.{String}
use Rattle.lt_definitions.specs.Types.{Chars, same_name, found, TypeTree, type_variable, type_constructor, TypeTrees, type_and, bool, row, same_type, same_types, TypeMap, type_instance}
use Rattle.lt_definitions.specs.Terms.{TermTree, free_variable, bound_name, constant, application, abstraction}
use Rattle.lt_definitions.specs.Alpha.{is_alpha}
use Rattle.lt_definitions.specs.Printing.{summary_line}
use Rattle.lt_transport_definitions.specs.Relations.{Relation, relation_variable, equality, constructed, Relations, no_relations, relation_and, Property, Sides, PropertyRule, RelationVariable, Registry, function_relator_name, property_rule_for}
use Rattle.lt_transport_definitions.specs.Expressions.{right, normal_equality, arguments_of, normal, is_equality, function_relator}
use Rattle.lt_transport_definitions.specs.Answers.{first_wrong}
use Rattle.lt_transport_definitions.specs.Forms.{constructor_name}
use Rattle.lt_transport_definitions.specs.RuleForm.{TransferRule}
use Rattle.lt_transport_definitions.specs.Candidates.{type_at, match_of, candidates}
use Rattle.lt_transport_definitions.specs.Correspondence.{ChosenStatement, chosen_name, chosen_rule, chosen_equality, not_chosen, chosen_application, chosen_abstraction, Assignment, statement_of, relation_instance, image_of}
use Rattle.lt_transport_definitions.specs.Search.{Question, top_candidates}
use Rattle.lt_transport_definitions.specs.Reduction.{as_printed}
use Rattle.lt_transport_definitions.specs.Sessions.{Session, new_session, signature_of, rules_now}
use Rattle.lt_transport_definitions.specs.Quotients.{raw_at, Quot, identity_quotient, relator_quotient, registered_quotient, composed_quotient, no_quotient_between, Quots, no_quots, quot_and, QuotCase, equal_types, one_relator, that_quotient, another_raw_type, nothing, case_of, missing_pair}
use Rattle.lt_texts.specs.Commands.{Command}
use Rattle.lt_transport_definitions.specs.Commands.{because, Addition, item_of, session_behind}
use Rattle.lt_transport_definitions.specs.Rows.{BlockOutcome, Row, ◌⊳◌, with_value, with_form, with_quotient, with_image, with_normal_form, adds}
use Rattle.lt_transport_definitions.specs.Parts.{tests_before}
use Rattle.lt_transport_definitions.specs.Reports.{printed_refusal}
use Rattle.lt_transport_definitions.specs.Table.{row_of}
use Rattle.lt_transport_definitions.specs.Blocks.{no_quotient}

-- quotients of arguments
abbrev pub quots_by : (TypeTree → TypeTree → Quot) → TypeTrees → TypeTrees → Quots
quots_by f (type_and t ts) (type_and u us) = quot_and (f t u) (quots_by f ts us)
quots_by f _ _ = no_quots

-- the quotient by the case that applies
abbrev pub quot_by_case : (TypeTree → TypeTree → Quot) → QuotCase → TypeTree → TypeTree → Quot
quot_by_case f equal_types abs raw = identity_quotient abs
quot_by_case f one_relator abs raw =
    relator_quotient (constructor_name abs) (quots_by f (arguments_of abs) (arguments_of raw))
quot_by_case f (that_quotient e ts) abs raw = registered_quotient e ts
quot_by_case f (another_raw_type e ts) abs raw = composed_quotient (f (raw_at e ts) raw) e ts
quot_by_case f nothing abs raw = no_quotient_between abs raw

-- the quotient between two types, if its depth is less than this
abbrev pub quot_within : ℕ → Session → TypeTree → TypeTree → Quot
quot_within zero s abs raw = no_quotient_between abs raw
quot_within (suc n) s abs raw =
    quot_by_case (quot_within n s) (case_of s.registry s.quotients abs raw) abs raw

-- whether two expressions are one
abbrev mutual
  pub same_relation : Relation → Relation → Bool
  same_relation (relation_variable n t) (relation_variable m u) = nat_eq n m && same_type t u
  same_relation (equality t) (equality u) = same_type t u
  same_relation (constructed c ts rs) (constructed d us ss) =
      same_name c d && same_types (row ts) (row us) && same_relations rs ss
  same_relation _ _ = false

  pub same_relations : Relations → Relations → Bool
  same_relations no_relations no_relations = true
  same_relations (relation_and r rs) (relation_and s ss) = same_relation r s && same_relations rs ss
  same_relations _ _ = false

-- whether premises hold at their places
abbrev pub each_holds : Sides → (ℕ → Property → Bool) → Bool
each_holds sides holds = list_all (λ s. holds s.1 s.0) sides

-- whether a rule is registered and its premises hold
abbrev pub rule_holds : Option PropertyRule → (ℕ → Property → Bool) → Bool
rule_holds None holds = false
rule_holds (Some rule) holds = each_holds rule.premises holds

-- side conditions as tests
abbrev mutual
  pub side_holds : Registry → Relation → Property → Bool
  side_holds G (relation_variable n t) p = false
  side_holds G (equality t) p = true
  side_holds G (constructed c ts rs) p =
      is_equality G (constructed c ts rs)
      || rule_holds (property_rule_for G p c) (side_holds_at G rs)

  pub side_holds_at : Registry → Relations → ℕ → Property → Bool
  side_holds_at G no_relations i p = false
  side_holds_at G (relation_and r rs) zero p = side_holds G r p
  side_holds_at G (relation_and r rs) (suc i) p = side_holds_at G rs i p

-- whether an expression is in normal form and has this right type
abbrev pub is_expression_of : Registry → TypeTree → Relation → Bool
is_expression_of G ty r = same_relation (normal G r) r && same_type (right G r) ty

-- whether values are expressions of their right types
abbrev pub are_values : Registry → TypeMap → List RelationVariable → List Relation → Bool
are_values G m (x ∷ xs) (v ∷ vs) =
    is_expression_of G (type_instance m (type_variable x.right_name)) v && are_values G m xs vs
are_values G m [] [] = true
are_values G m _ _ = false

-- whether a value has a property
abbrev pub value_has : Registry → List Relation → ℕ → Property → Bool
value_has G vs i p = unwrap_or (option_map (λ v. side_holds G v p) (slice_get vs i)) false

-- the candidate with a number
abbrev pub candidate : Session → String → List TypeTree → ℕ → TransferRule
candidate s c ts i = unwrap_or (slice_get (candidates (rules_now s) (codes c) ts) i)
    (record {
      label = [];
      variables = [];
      sides = [];
      relation = equality bool;
      raw = bound_name [];
      constant = [];
      pattern = [];
    })

-- whether the candidates, the right types and the side conditions are right
abbrev pub is_assigned : Session → (K : ChosenStatement) → Assignment K → Bool
is_assigned s (chosen_name x) v = true
is_assigned s (chosen_rule c ts i rule) v =
    same_name rule.constant c && nat_lt i (length (candidates (rules_now s) c ts))
    && are_values s.registry (match_of rule ts) rule.variables v
    && each_holds rule.sides (value_has s.registry v)
is_assigned s (chosen_equality c ts) v = nat_eq (length (candidates (rules_now s) c ts)) 0
is_assigned s (not_chosen c ts) v = false
is_assigned s (chosen_application f a) v = is_assigned s f v.0 && is_assigned s a v.1
is_assigned s (chosen_abstraction x ty b) v =
    is_expression_of s.registry ty v.0 && is_assigned s b v.1

-- what the expression of a head gives at that of its argument
abbrev pub result_at : Option Relation → Option Relation → Option Relation
result_at (Some (constructed c ts (relation_and r (relation_and e no_relations)))) (Some a) =
    if same_name c function_relator_name && same_relation r a then Some e else None
result_at _ _ = None

-- the expression by which a statement corresponds
abbrev pub expression_by : Session → List (Chars × Relation) → (K : ChosenStatement) → Assignment K
    → Option Relation
expression_by s names (chosen_name x) v = found x names
expression_by s names (chosen_rule c ts i rule) v =
    Some (relation_instance s.registry (match_of rule ts) v rule.relation)
expression_by s names (chosen_equality c ts) v =
    Some (normal_equality s.registry (type_at (signature_of s) c ts))
expression_by s names (not_chosen c ts) v = None
expression_by s names (chosen_application f a) v =
    result_at (expression_by s names f v.0) (expression_by s names a v.1)
expression_by s names (chosen_abstraction x ty b) v =
    option_map (function_relator v.0) (expression_by s ((x, v.0) ∷ names) b v.1)

-- what is told of a transport: a solution, the image before reduction, and its normal form
pub record Told : Type 0 where
  pub solution : Session → (K : ChosenStatement) × Assignment K
  pub top : ℕ
  pub image : TermTree
  pub normal : TermTree

-- whether the told solution is one, and has the told image
abbrev pub is_solution : Session → Question → Told → Bool
is_solution s q t = let w : (K : ChosenStatement) × Assignment K = t.solution s in
    is_alpha (statement_of w.0) q.statement && is_assigned s w.0 w.1
    && unwrap_or
    (option_map (λ e.
    unwrap_or (option_map (same_relation e) (slice_get (top_candidates q.top) t.top)) false)
    (expression_by s [] w.0 w.1)) false
    && is_alpha (image_of q.signature q.registry w.0 w.1) t.image

-- what comes of a row
abbrev pub computed : Session → Option Told → Row → BlockOutcome
computed s told (test ⊳ rest) =
    elim test as (λ r. BlockOutcome) [ None ↦ computed s told rest | Some r ↦ Err r ]
computed s told (with_value x r row) =
    elim x as (λ o. BlockOutcome) [ None ↦ Err r | Some y ↦ computed s told (row y) ]
computed s told (with_form x refusal_for row) =
    elim x as (λ o. BlockOutcome) [ Ok y ↦ computed s told (row y) | Err e ↦ Err (refusal_for e) ]
computed s told (with_quotient abs raw row) = let q : Quot = quot_within 12 s abs raw in
    elim (missing_pair q) as
    (λ p. BlockOutcome) [ None ↦ computed s told (row q) | Some p ↦ Err (no_quotient p.0 p.1) ]
computed s None (with_image q limit row) = Err (because "NoTransport" [])
computed s (Some t) (with_image q limit row) =
    if is_solution s q t then computed s (Some t) (row t.image) else Err (because "NoTransport" [])
computed s None (with_normal_form t row) = Err (because "NoTransport" [])
computed s (Some told) (with_normal_form t row) =
    computed s (Some told) (row (as_printed [] told.normal))
computed s told (adds items registered) =
    Ok (record { additions = items; registrations = registered })

-- what comes of a command
abbrev pub outcome : Session → Command × Option Told → BlockOutcome
outcome s c =
    elim (first_wrong (tests_before s c.0)) as
    (λ r. BlockOutcome) [ None ↦ computed s c.1 (row_of s c.0) | Some r ↦ Err r ]

-- the summary lines of what is added
abbrev pub item_text : List Addition → Chars
item_text [] = []
item_text (a ∷ additions) = summary_line (item_of a) ++ item_text additions

-- a session, the text so far, and whether a command was refused
abbrev pub State : Type 0
State = record { session : Session; text : Chars; ended : Bool }

-- the state behind an outcome
abbrev pub stepped : State → BlockOutcome → State
stepped s (Ok b) =
    record {
      session = session_behind s.session b;
      text = s.text ++ item_text b.additions;
      ended = false;
    }
stepped s (Err r) =
    record { session = s.session; text = s.text ++ (printed_refusal r ++ codes "\n"); ended = true }

-- the state behind commands
abbrev pub run_from : State → List (Command × Option Told) → State
run_from s [] = s
run_from s (c ∷ cs) =
    elim s.ended as
    (λ b. State) [ true ↦ s | false ↦ run_from (stepped s (outcome s.session c)) cs ]

-- the summary lines of commands, and the first refusal
abbrev pub text_of : List (Command × Option Told) → Chars
text_of cs = (run_from (record { session = new_session 100000; text = []; ended = false }) cs).text

-- short names for the parts of the rows
abbrev pub tv : String → TypeTree
tv x = type_variable (codes x)

abbrev pub tc : String → List TypeTree → TypeTree
tc x ts = type_constructor (codes x) (row ts)

abbrev pub cn : String → List TypeTree → TermTree
cn x ts = constant (codes x) ts

abbrev pub bn : String → TermTree
bn x = bound_name (codes x)

abbrev pub fr : String → TypeTree → TermTree
fr x ty = free_variable (codes x) ty

abbrev pub ap : TermTree → TermTree → TermTree
ap f x = application f x

abbrev pub lm : String → TypeTree → TermTree → TermTree
lm x ty b = abstraction (codes x) ty b

abbrev pub untold : Command → Command × Option Told
untold c = (c, None)

abbrev pub told : Command → Told → Command × Option Told
told c t = (c, Some t)
