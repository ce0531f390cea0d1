-- Some outcome comes of each command that asks for no image, and for no quotient of before.
use Rattle.std.specs.Prelude.{◌≡◌, List, [], ◌∷◌, Option, Some, None, Result, Ok, Err, option_map}
use Rattle.std.specs.Result.{result_err, result_unwrap_or}
use Rattle.std.proofs.Common.{refl}
use Rattle.lt_definitions.specs.Types.{Chars, TypeTree, row, bool}
use Rattle.lt_definitions.specs.Terms.{TermTree}
use Rattle.lt_definitions.specs.Typing.{Fault, type_fault, typed}
use Rattle.lt_definitions.specs.Rules.{type_of}
use Rattle.lt_definitions.specs.Theory.{Refusal, fault_test, type_test, term_test}
use Rattle.lt_texts.specs.Commands.{Command, item_command, law_command, corr_command, relator_command, property_command, domain_command, rule_command, lifting_command, lifting_typedef_command, quotient_type_command, lift_command, parametric_command, param_rule_command, equiv_command, implies_command, carry_command, abs_eq_command, rep_eq_command}
use Rattle.lt_transport_definitions.specs.Answers.{first_wrong}
use Rattle.lt_transport_definitions.specs.Sessions.{Session}
use Rattle.lt_transport_definitions.specs.Quotients.{Quot, IsQuotBetween, missing_pair}
use Rattle.lt_transport_definitions.specs.Commands.{CommandRefusal}
use Rattle.lt_transport_definitions.specs.Rows.{BlockOutcome, Row, ◌⊳◌, with_value, with_form, with_quotient, with_image, with_normal_form, adds, item_test}
use Rattle.lt_transport_definitions.specs.Parts.{tests_before}
use Rattle.lt_transport_definitions.specs.Table.{row_of}
use Rattle.lt_transport_definitions.specs.Blocks.{no_quotient, Unless, OfValue, OfForm, ComesOfRow, ComesOf}
use Rattle.lt_transport_laws.specs.OrderStatements.{IsOrderedSession, OutcomesExist}
use Rattle.lt_transport_laws.proofs.OrderedSessions.{type-sound, have-quotients}
use Rattle.lt_transport_laws.proofs.TheorySessions.{theory-context}

-- A row that asks for no image and no normal form, and for a quotient where there is one.
abbrev HasOutcome : Session → Row → Type 0
HasOutcome s (test ⊳ rest) = test ≡ None → HasOutcome s rest
HasOutcome s (with_value {A} x r row) = (y : A) → x ≡ Some y → HasOutcome s (row y)
HasOutcome s (with_form {A} x refusal_for row) = (y : A) → x ≡ Ok y → HasOutcome s (row y)
HasOutcome s (with_quotient abs raw row) = ((q : Quot) × IsQuotBetween s.registry s.quotients abs raw q) × ((q : Quot) → HasOutcome s (row q))
HasOutcome s (with_image q limit row) = ⊥
HasOutcome s (with_normal_form t row) = ⊥
HasOutcome s (adds items registered) = Unit {0}

abbrev Comes : (BlockOutcome → Type 0) → Type 0
Comes Is = (o : BlockOutcome) × Is o

comes-unless : (r : Option CommandRefusal) (Is : BlockOutcome → Type 0) → (r ≡ None → Comes Is) → Comes (Unless r Is)
comes-unless (Some r) Is h = (Err r, refl)
comes-unless None Is h = h refl

comes-value : {A : Type 0} (x : Option A) (r : CommandRefusal) (Is : A → BlockOutcome → Type 0) → ((y : A) → x ≡ Some y → Comes (Is y)) → Comes (OfValue x r Is)
comes-value (Some y) r Is h = h y refl
comes-value None r Is h = (Err r, refl)

comes-form : {A E : Type 0} (x : Result A E) (f : E → CommandRefusal) (Is : A → BlockOutcome → Type 0) → ((y : A) → x ≡ Ok y → Comes (Is y)) → Comes (OfForm x f Is)
comes-form (Ok y) f Is h = h y refl
comes-form (Err e) f Is h = (Err (f e), refl)

comes-row : (s : Session) (row : Row) → HasOutcome s row → Comes (ComesOfRow s row)
comes-row s (test ⊳ rest) h = comes-unless test (ComesOfRow s rest) (λ e. comes-row s rest (h e))
comes-row s (with_value x r row) h = comes-value x r (λ y. ComesOfRow s (row y)) (λ y e. comes-row s (row y) (h y e))
comes-row s (with_form x f row) h = comes-form x f (λ y. ComesOfRow s (row y)) (λ y e. comes-row s (row y) (h y e))
comes-row s (with_quotient abs raw row) h =
    let q = h.0.0 in
    let u = comes-unless (option_map (λ p. no_quotient p.0 p.1) (missing_pair q)) (ComesOfRow s (row q)) (λ e. comes-row s (row q) (h.1 q)) in
    (u.0, (q, h.0.1, u.1))
comes-row s (with_image q limit row) h = absurd h
comes-row s (with_normal_form t row) h = absurd h
comes-row s (adds items registered) h = (Ok (record { additions = items; registrations = registered }), refl)

comes-of : (s : Session) (c : Command) → (first_wrong (tests_before s c) ≡ None → HasOutcome s (row_of s c)) → Comes (ComesOf s c)
comes-of s c h = comes-unless (first_wrong (tests_before s c)) (ComesOfRow s (row_of s c)) (λ e. comes-row s (row_of s c) (h e))

-- where no test is wrong, the first isn't, nor any later one
none-wrong : (o : Option CommandRefusal) (later : List (Option CommandRefusal)) → first_wrong (o ∷ later) ≡ None → (o ≡ None) × (first_wrong later ≡ None)
none-wrong None later e = (refl, e)
none-wrong (Some r) later e = absurd (cc)

item-none : (o : Option Refusal) → item_test o ≡ None → o ≡ None
item-none None e = refl
item-none (Some r) e = absurd (cc)

fault-none : (o : Option Fault) → fault_test o ≡ None → o ≡ None
fault-none None e = refl
fault-none (Some f) e = absurd (cc)

-- the type of a term that passes its test has no fault
type-none : (s : Session) → IsOrderedSession s → (t : TermTree) (r : Result TypeTree Fault) → typed s.context.signature [] t ≡ r → fault_test (result_err r) ≡ None
    → type_fault s.context.signature (result_unwrap_or r bool) ≡ None
type-none s h t (Ok ty) e n = type-sound s.context (theory-context s h.theory) t ty e
type-none s h t (Err f) e n = absurd (cc)

lift-row : (s : Session) (n : Chars) (ty : TypeTree) (t : TermTree) (l : Chars) → IsOrderedSession s → type_test s.context ty ≡ None → term_test s.context t ≡ None
    → HasOutcome s (row_of s (lift_command n ty t l))
lift-row s n ty t l h f g = λ respects e m o. (
  have-quotients s ty (type_of s.context.signature t) h (fault-none (type_fault s.context.signature ty) f)
      (type-none s h t (typed s.context.signature [] t) refl g),
  λ q p u. tt,
)

pub outcomes-exist : OutcomesExist
outcomes-exist s (item_command i) h k = comes-of s (item_command i) (λ n e. tt)
outcomes-exist s (law_command w l) h k = comes-of s (law_command w l) (λ n t e law f g. tt)
outcomes-exist s (corr_command c) h k = comes-of s (corr_command c) (λ n d e f. tt)
outcomes-exist s (relator_command K R M E Q O) h k = comes-of s (relator_command K R M E Q O) (λ z eq e quot f comp g x y n m. tt)
outcomes-exist s (property_command l) h k = comes-of s (property_command l) (λ z t e rule f n. tt)
outcomes-exist s (domain_command l) h k = comes-of s (domain_command l) (λ z t e rule f n. tt)
outcomes-exist s (rule_command l) h k = comes-of s (rule_command l) (λ z t e rule f n. tt)
outcomes-exist s (lifting_command l) h k = comes-of s (lifting_command l) (λ z t e n quot f m x g o p q u v. tt)
outcomes-exist s (lifting_typedef_command q) h k = comes-of s (lifting_typedef_command q) (λ z n t e m. tt)
outcomes-exist s (quotient_type_command q params r l) h k = comes-of s (quotient_type_command q params r l) (λ z t e n m o p u v w. tt)
outcomes-exist s (lift_command n ty t l) h k = comes-of s (lift_command n ty t l) (λ z.
    let first = none-wrong (item_test (type_test s.context ty)) _ z in
    let second = none-wrong (item_test (term_test s.context t)) _ first.1 in
    lift-row s n ty t l h (item-none (type_test s.context ty) first.0) (item-none (term_test s.context t) second.0))
outcomes-exist s (parametric_command q) h k = comes-of s (parametric_command q) (λ z n e f m o. tt)
outcomes-exist s (param_rule_command n l m) h k = comes-of s (param_rule_command n l m) (λ z t e u f o rule g p q v w. tt)
outcomes-exist s (equiv_command n t) h k = absurd (cc)
outcomes-exist s (implies_command n t) h k = absurd (cc)
outcomes-exist s (carry_command n e l) h k = comes-of s (carry_command n e l) (λ z transport f t g m. tt)
outcomes-exist s (abs_eq_command c) h k = absurd (cc)
outcomes-exist s (rep_eq_command c) h k = absurd (cc)
