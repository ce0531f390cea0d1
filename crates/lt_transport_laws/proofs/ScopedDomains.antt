-- The domains that commands register have their binders.
use Rattle.std.specs.Prelude.{◌≡◌, List, [], ◌∷◌, ◌++◌, Bool, true, false, ◌||◌, ◌&&◌, not, if◌then◌else◌, Option, Some, None, codes, fold, option_map, option_and_then, option_to_list}
use Rattle.std.specs.List.{list_any}
use Rattle.std.proofs.Common.{refl, subst}
use Rattle.lt_definitions.specs.Types.{Chars, same_name, TypeTree, bool, fun}
use Rattle.lt_definitions.specs.Terms.{TermTree, free_variable, bound_name, constant, application, abstraction, term_names, has_loose, HasNoLooseNames}
use Rattle.lt_definitions.specs.Typing.{Signature, typed}
use Rattle.lt_definitions.specs.Rules.{as_equation, type_of}
use Rattle.lt_nameless.proofs.TypeLaws.{typed_terms_have_no_loose_names}
use Rattle.lt_nameless.proofs.Typings.{typed-has}
use Rattle.lt_transport_definitions.specs.Notation.{WithType}
use Rattle.lt_transport_definitions.specs.Patterns.{relation_sides}
use Rattle.lt_transport_definitions.specs.Relations.{DomainRule, Registry}
use Rattle.lt_transport_definitions.specs.Reading.{body_of, prefix_of}
use Rattle.lt_transport_definitions.specs.Forms.{are_among, domain_head, domain_form}
use Rattle.lt_transport_definitions.specs.RuleForm.{TransferRule}
use Rattle.lt_transport_definitions.specs.Sessions.{QuotientEntry, Session}
use Rattle.lt_texts.specs.Commands.{Command, item_command, law_command, corr_command, relator_command, property_command, domain_command, rule_command, lifting_command, lifting_typedef_command, quotient_type_command, lift_command, parametric_command, param_rule_command, equiv_command, implies_command, carry_command, abs_eq_command, rep_eq_command}
use Rattle.lt_transport_definitions.specs.Commands.{Registration, law_registered, corr_registered, relator_registered, form_registered, property_registered, domain_registered, rule_registered, quotient_registered, lifted_registered, transport_registered, Block, with_registration}
use Rattle.lt_transport_definitions.specs.QuotientBlocks.{as_quotient, self_related}
use Rattle.lt_transport_definitions.specs.QuotientRows.{is_relation_on_one}
use Rattle.lt_transport_definitions.specs.Table.{row_of}
use Rattle.lt_transport_laws.specs.SessionStatements.{AreScopedDomains}
use Rattle.lt_transport_laws.specs.OrderStatements.{IsOrderedSession}
use Rattle.lt_transport_laws.proofs.FormLabels.{domain_equation}
use Rattle.lt_transport_laws.proofs.LooseNames.{head-none, argument-none}
use Rattle.lt_transport_laws.proofs.OrderedSessions.{test-holds, relation-is, related-typed, found-typedef}
use Rattle.lt_transport_laws.proofs.RowFacts.{EachBlock}
use Rattle.lt_transport_laws.proofs.ScopedRules.{body-none}
use Rattle.lt_transport_laws.proofs.TheoremForms.{quotient-is}
use Rattle.lt_transport_laws.proofs.TheorySessions.{theory-stated}

-- an optional domain equation whose domain has its binders
abbrev IsScopedOption : Option DomainRule → Type 0
IsScopedOption None = Unit {0}
IsScopedOption (Some d) = HasNoLooseNames d.domain

then-scoped : {A : Type 0} (f : A → Option DomainRule) (o : Option A) → ((x : A) → o ≡ Some x → IsScopedOption (f x)) → IsScopedOption (option_and_then f o)
then-scoped f None h = tt
then-scoped f (Some x) h = h x refl

abbrev IsScopedSide : Option (TypeTree × TermTree × TermTree) → Type 0
IsScopedSide None = Unit {0}
IsScopedSide (Some e) = HasNoLooseNames e.2

equation-if : (c : Chars) (ty : TypeTree) (s t : TermTree) → HasNoLooseNames t → (b : Bool) → IsScopedSide (if b then Some (ty, s, t) else None)
equation-if c ty s t h true = h
equation-if c ty s t h false = tt

equation-side : (t : TermTree) → HasNoLooseNames t → IsScopedSide (as_equation t)
equation-side (application (application (constant c (ty ∷ [])) s) t) h =
    equation-if c ty s t (argument-none (application (constant c (ty ∷ [])) s) t h) (same_name c (codes "eq"))
equation-side (application (application (constant c []) s) t) h = tt
equation-side (application (application (constant c (ty ∷ u ∷ ts)) s) t) h = tt
equation-side (application (application (free_variable x ty) s) t) h = tt
equation-side (application (application (bound_name x) s) t) h = tt
equation-side (application (application (application f g) s) t) h = tt
equation-side (application (application (abstraction x ty b) s) t) h = tt
equation-side (application (free_variable x ty) t) h = tt
equation-side (application (bound_name x) t) h = tt
equation-side (application (constant c ts) t) h = tt
equation-side (application (abstraction x ty b) t) h = tt
equation-side (free_variable x ty) h = tt
equation-side (bound_name x) h = tt
equation-side (constant c ts) h = tt
equation-side (abstraction x ty b) h = tt

rule-if : (b : Bool) (d : DomainRule) → HasNoLooseNames d.domain → IsScopedOption (if b then Some d else None)
rule-if true d h = h
rule-if false d h = tt

form-scoped : (sig : Signature) (G : Registry) (l : Chars) (t : TermTree) → HasNoLooseNames t → IsScopedOption (domain_form sig G l t)
form-scoped sig G l t h = then-scoped _ (prefix_of t) (λ xs a.
    then-scoped (domain_equation sig G l xs) (as_equation (body_of t)) (λ e b.
    let side : HasNoLooseNames e.2 = subst IsScopedSide b (equation-side (body_of t) (body-none t h)) in
    then-scoped _ (domain_head sig G xs e.1) (λ head c. rule-if (are_among (term_names e.2) (term_names e.1)) _ side)))

-- \x. R x x
self-binder : (a l : Bool) → l ≡ false → (not a && ((l || a) || a)) ≡ false
self-binder true l e = refl
self-binder false true e = absurd (cc)
self-binder false false e = refl

self-none : (raw : TypeTree) (R : WithType) → HasNoLooseNames R.term → HasNoLooseNames (self_related raw R).term
self-none raw R h z = self-binder (same_name z (codes "x")) (has_loose z R.term) (h z)

-- the relation of a theorem
theorem-none : (sig : Signature) (l : Chars) (t : TermTree) (q : QuotientEntry) → HasNoLooseNames t → as_quotient sig l t ≡ Some q → HasNoLooseNames q.four.rel.term
theorem-none sig l t q h e =
    let k = quotient-is sig l t q e in
    let w : HasNoLooseNames (application (application (application (application (constant k.0 (q.raw_type ∷ q.abs_type ∷ [])) q.four.rel.term) k.1) k.2) k.3) =
    subst HasNoLooseNames k.4 h in
    argument-none (constant k.0 (q.raw_type ∷ q.abs_type ∷ [])) q.four.rel.term
    (head-none (application (constant k.0 (q.raw_type ∷ q.abs_type ∷ [])) q.four.rel.term) k.1
    (head-none (application (application (constant k.0 (q.raw_type ∷ q.abs_type ∷ [])) q.four.rel.term) k.1) k.2
    (head-none (application (application (application (constant k.0 (q.raw_type ∷ q.abs_type ∷ [])) q.four.rel.term) k.1) k.2) k.3 w)))

related-none : (sig : Signature) (r : TermTree) → is_relation_on_one (type_of sig r) ≡ true → HasNoLooseNames r
related-none sig r h =
    let k = relation-is (type_of sig r) (relation_sides (type_of sig r)) refl h in
    typed_terms_have_no_loose_names sig r (fun k.0 (fun k.0 bool))
    (typed-has sig [] r (fun k.0 (fun k.0 bool)) (related-typed (typed sig [] r) k.0 k.1))

-- registrations

abbrev IsScopedRegistration : Registration → Type 0
IsScopedRegistration (domain_registered d) = HasNoLooseNames d.domain
IsScopedRegistration _ = Unit {0}

abbrev pub AreScopedRegistrations : List Registration → Type 0
AreScopedRegistrations [] = Unit {0}
AreScopedRegistrations (r ∷ rs) = IsScopedRegistration r × AreScopedRegistrations rs

domains-one : (ds : List DomainRule) (d : DomainRule) → AreScopedDomains ds → HasNoLooseNames d.domain → AreScopedDomains (ds ++ d ∷ [])
domains-one [] d h k = (k, tt)
domains-one (e ∷ ds) d h k = (h.0, domains-one ds d h.1 k)

domains-if : (b : Bool) (ds : List DomainRule) (d : DomainRule) → AreScopedDomains ds → HasNoLooseNames d.domain
    → AreScopedDomains (if b then ds else ds ++ d ∷ [])
domains-if true ds d h k = h
domains-if false ds d h k = domains-one ds d h k

registration-scoped : (s : Session) (r : Registration) → AreScopedDomains s.registry.domain_rules → IsScopedRegistration r
    → AreScopedDomains (with_registration s r).registry.domain_rules
registration-scoped s (law_registered w l) h k = h
registration-scoped s (corr_registered d) h k = h
registration-scoped s (relator_registered r) h k = h
registration-scoped s (form_registered p) h k = h
registration-scoped s (property_registered r) h k = h
registration-scoped s (domain_registered d) h k = domains-if (list_any (λ e. same_name d.head e.head) s.registry.domain_rules) s.registry.domain_rules d h k
registration-scoped s (rule_registered l) h k = h
registration-scoped s (quotient_registered e) h k = h
registration-scoped s (lifted_registered e) h k = h
registration-scoped s (transport_registered e) h k = h

pub registrations-scoped : (s : Session) (rs : List Registration) → AreScopedDomains s.registry.domain_rules → AreScopedRegistrations rs
    → AreScopedDomains (fold with_registration s rs).registry.domain_rules
registrations-scoped s [] h k = h
registrations-scoped s (r ∷ rs) h k = registrations-scoped (with_registration s r) rs (registration-scoped s r h k.0) k.1

-- what a block registers
abbrev pub RegistersScoped : Block → Type 0
RegistersScoped b = AreScopedRegistrations b.registrations

optional-rule : (l : Chars) (o : Option TransferRule) → AreScopedRegistrations (option_to_list (option_map (λ rule. rule_registered l) o))
optional-rule l None = tt
optional-rule l (Some rule) = (tt, tt)

pub scoped-rows : (s : Session) → IsOrderedSession s → (c : Command) → EachBlock RegistersScoped (row_of s c)
scoped-rows s h (item_command i) = λ e. tt
scoped-rows s h (law_command w l) = λ t e law f g. (tt, tt)
scoped-rows s h (corr_command c) = λ d e f. (tt, tt)
scoped-rows s h (relator_command K R M E Q O) = λ eq e quot f comp g x y n m. (tt, tt)
scoped-rows s h (property_command l) = λ t e rule f n. (tt, tt)
scoped-rows s h (domain_command l) = λ t e rule f n. (
  subst IsScopedOption f (form-scoped s.context.signature s.registry l t
      (typed_terms_have_no_loose_names s.context.signature t bool (theory-stated s h.theory l t e))),
  tt,
)
scoped-rows s h (rule_command l) = λ t e rule f n. (tt, tt)
scoped-rows s h (lifting_command l) = λ t e n quot f m x g o p q u v.
    let R : HasNoLooseNames quot.four.rel.term = theorem-none s.context.signature l t quot
    (typed_terms_have_no_loose_names s.context.signature t bool (theory-stated s h.theory l t e)) f in
    (tt, (tt, (tt, (tt, (tt, (self-none quot.raw_type quot.four.rel R, tt))))))
scoped-rows s h (lifting_typedef_command q) = λ n t e m.
    let o = found-typedef s.context.signature s.typedefs q t h.typedefs e in (
      tt,
      (
        tt,
        (
          tt,
          (
            tt,
            (
              tt,
              (
                tt,
                (
                  typed_terms_have_no_loose_names s.context.signature t.predicate (fun o.0.raw bool)
                      (typed-has s.context.signature [] t.predicate (fun o.0.raw bool) o.0.predicate),
                  tt,
                ),
              ),
            ),
          ),
        ),
      ),
    )
scoped-rows s h (quotient_type_command q params r l) = λ t e n m o p u v w.
    let R : HasNoLooseNames r = related-none s.context.signature r (test-holds (is_relation_on_one (type_of s.context.signature r)) "relation" o) in
    (tt, (tt, (tt, (tt, (tt, (self-none (type_of s.context.signature r) (record { term = r; ty = type_of s.context.signature r }) R, tt))))))
scoped-rows s h (lift_command n ty t l) = λ respects e m o q p u. (tt, optional-rule _ _)
scoped-rows s h (parametric_command q) = λ n e f m o. (tt, tt)
scoped-rows s h (param_rule_command n l m) = λ t e u f o rule g p q v w. (tt, tt)
scoped-rows s h (equiv_command n t) = λ e f g image y normal. (tt, tt)
scoped-rows s h (implies_command n t) = λ e f g image y normal. (tt, tt)
scoped-rows s h (carry_command n e l) = λ transport f t g m. tt
scoped-rows s h (abs_eq_command c) = λ e f n q. tt
scoped-rows s h (rep_eq_command c) = λ e f n q m. tt
