-- A session in step gives one in step.
use Rattle.std.specs.Prelude.{◌≡◌, ◌⊎◌, List, [], ◌∷◌, ◌++◌, ◌&&◌, Option, Some, None, map, fold, option_map, option_to_list, is_some, codes}
use Rattle.std.specs.Result.{result_ok}
use Rattle.std.specs.List.{flat_map}
use Rattle.std.proofs.Common.{refl, subst, sym, ap, ◌∙◌, inl, inr}
use Rattle.lt_definitions.specs.Types.{Chars, same_name, TypeTree}
use Rattle.lt_definitions.specs.Terms.{TermTree}
use Rattle.lt_definitions.specs.Items.{def_item, Context}
use Rattle.lt_transport_definitions.specs.Notation.{WithType, ◌·◌}
use Rattle.lt_transport_definitions.specs.Relations.{Relator, PropertyRule, DomainRule}
use Rattle.lt_transport_definitions.specs.Answers.{first_wrong}
use Rattle.lt_transport_definitions.specs.RuleForm.{TransferRule, rule_form}
use Rattle.lt_transport_definitions.specs.Sessions.{Four, QuotientEntry, Session, signature_of, statement_at}
use Rattle.lt_texts.specs.Commands.{Command, item_command, law_command, corr_command, relator_command, property_command, domain_command, rule_command, lifting_command, lifting_typedef_command, quotient_type_command, lift_command, parametric_command, param_rule_command, equiv_command, implies_command, carry_command, abs_eq_command, rep_eq_command}
use Rattle.lt_transport_definitions.specs.Commands.{Addition, this_item, Registration, law_registered, corr_registered, relator_registered, form_registered, property_registered, domain_registered, rule_registered, quotient_registered, lifted_registered, transport_registered, Block, with_addition, with_registration, session_behind}
use Rattle.lt_transport_definitions.specs.QuotientTerms.{four_of}
use Rattle.lt_transport_definitions.specs.Rows.{lemma_of, declared_constant, with_its_type}
use Rattle.lt_transport_definitions.specs.LiftRows.{adds_lifted}
use Rattle.lt_transport_definitions.specs.Parts.{tests_before}
use Rattle.lt_transport_definitions.specs.Table.{row_of}
use Rattle.lt_transport_definitions.specs.Blocks.{ComesOfRow}
use Rattle.lt_transport_laws.specs.SessionStatements.{IsStated, AreStated, relator_labels, form_labels, lifted_labels, IsInStep, SessionsStayInStep}
use Rattle.lt_transport_laws.proofs.RowLemmas.{comes-unless}
use Rattle.lt_transport_laws.proofs.RowFacts.{EachBlock, comes-block}
use Rattle.lt_transport_laws.proofs.RegistriesStay.{form-same}
use Rattle.lt_transport_laws.proofs.StatedLabels.{additions-keep, States, additions-state, all-keep, map-one, flat-one, unless-one}
use Rattle.lt_transport_laws.proofs.FormLabels.{property-label, domain-label}
use Rattle.lt_transport_laws.proofs.TheoremForms.{quotient-is}

-- the same as being in step, where the context is told
pub record IsInStepAt (ctx : Context) (s : Session) : Type 0 where
  pub laws : AreStated ctx (map (λ p. p.1) s.laws)
  pub relators : AreStated ctx (flat_map relator_labels s.registry.relators)
  pub forms : AreStated ctx (flat_map form_labels s.registry.forms)
  pub properties : AreStated ctx (map (λ r. r.label) s.registry.property_rules)
  pub domains : AreStated ctx (map (λ r. r.label) s.registry.domain_rules)
  pub rules : AreStated ctx s.rules
  pub quotients : AreStated ctx (map (λ e. e.label) s.quotients)
  pub lifted : AreStated ctx (flat_map lifted_labels s.lifted)
  pub transports : AreStated ctx (map (λ e. e.label) s.transports)

-- the labels that a registration keeps
abbrev labels_of : Registration → List Chars
labels_of (law_registered w l) = l ∷ []
labels_of (corr_registered d) = []
labels_of (relator_registered r) = relator_labels r
labels_of (form_registered p) = form_labels p
labels_of (property_registered r) = r.label ∷ []
labels_of (domain_registered r) = r.label ∷ []
labels_of (rule_registered l) = l ∷ []
labels_of (quotient_registered e) = e.label ∷ []
labels_of (lifted_registered e) = lifted_labels e
labels_of (transport_registered e) = e.label ∷ []

rules-one : (ctx : Context) (ls : List Chars) (l : Chars) → AreStated ctx ls → IsStated ctx l → AreStated ctx (ls ++ l ∷ [])
rules-one ctx [] l h k = (k, tt)
rules-one ctx (m ∷ ls) l h k = (h.0, rules-one ctx ls l h.1 k)

registers : (ctx : Context) (s : Session) (r : Registration) → IsInStepAt ctx s → AreStated ctx (labels_of r) → IsInStepAt ctx (with_registration s r)
registers ctx s (law_registered w l) h k = record {
  laws = unless-one ctx (λ p. p.1) (λ p. same_name w p.0) s.laws (w, l) h.laws k.0;
  relators = h.relators;
  forms = h.forms;
  properties = h.properties;
  domains = h.domains;
  rules = h.rules;
  quotients = h.quotients;
  lifted = h.lifted;
  transports = h.transports;
}
registers ctx s (corr_registered d) h k = record {
  laws = h.laws;
  relators = h.relators;
  forms = h.forms;
  properties = h.properties;
  domains = h.domains;
  rules = h.rules;
  quotients = h.quotients;
  lifted = h.lifted;
  transports = h.transports;
}
registers ctx s (relator_registered r) h k = record {
  relators = flat-one ctx relator_labels s.registry.relators r h.relators k;
  laws = h.laws;
  forms = h.forms;
  properties = h.properties;
  domains = h.domains;
  rules = h.rules;
  quotients = h.quotients;
  lifted = h.lifted;
  transports = h.transports;
}
registers ctx s (form_registered p) h k = record {
  forms = flat-one ctx form_labels s.registry.forms p h.forms k;
  laws = h.laws;
  relators = h.relators;
  properties = h.properties;
  domains = h.domains;
  rules = h.rules;
  quotients = h.quotients;
  lifted = h.lifted;
  transports = h.transports;
}
registers ctx s (property_registered r) h k = record {
  properties = unless-one ctx (λ (q : PropertyRule). q.label) (λ e. same_name r.property e.property && same_name r.head e.head) s.registry.property_rules r h.properties k.0;
  laws = h.laws;
  relators = h.relators;
  forms = h.forms;
  domains = h.domains;
  rules = h.rules;
  quotients = h.quotients;
  lifted = h.lifted;
  transports = h.transports;
}
registers ctx s (domain_registered r) h k = record {
  domains = unless-one ctx (λ (q : DomainRule). q.label) (λ e. same_name r.head e.head) s.registry.domain_rules r h.domains k.0;
  laws = h.laws;
  relators = h.relators;
  forms = h.forms;
  properties = h.properties;
  rules = h.rules;
  quotients = h.quotients;
  lifted = h.lifted;
  transports = h.transports;
}
registers ctx s (rule_registered l) h k = record {
  rules = rules-one ctx s.rules l h.rules k.0;
  laws = h.laws;
  relators = h.relators;
  forms = h.forms;
  properties = h.properties;
  domains = h.domains;
  quotients = h.quotients;
  lifted = h.lifted;
  transports = h.transports;
}
registers ctx s (quotient_registered e) h k = record {
  quotients = map-one ctx (λ (q : QuotientEntry). q.label) s.quotients e h.quotients k.0;
  laws = h.laws;
  relators = h.relators;
  forms = h.forms;
  properties = h.properties;
  domains = h.domains;
  rules = h.rules;
  lifted = h.lifted;
  transports = h.transports;
}
registers ctx s (lifted_registered e) h k = record {
  lifted = flat-one ctx lifted_labels s.lifted e h.lifted k;
  laws = h.laws;
  relators = h.relators;
  forms = h.forms;
  properties = h.properties;
  domains = h.domains;
  rules = h.rules;
  quotients = h.quotients;
  transports = h.transports;
}
registers ctx s (transport_registered e) h k = record {
  transports = map-one ctx (λ t. t.label) s.transports e h.transports k.0;
  laws = h.laws;
  relators = h.relators;
  forms = h.forms;
  properties = h.properties;
  domains = h.domains;
  rules = h.rules;
  quotients = h.quotients;
  lifted = h.lifted;
}

-- the labels of each registration are stated
abbrev AreAllStated : Context → List Registration → Type 0
AreAllStated ctx [] = Unit {0}
AreAllStated ctx (r ∷ rs) = AreStated ctx (labels_of r) × AreAllStated ctx rs

register-all : (ctx : Context) (s : Session) (rs : List Registration) → IsInStepAt ctx s → AreAllStated ctx rs → IsInStepAt ctx (fold with_registration s rs)
register-all ctx s [] h k = h
register-all ctx s (r ∷ rs) h k = register-all ctx (with_registration s r) rs (registers ctx s r h k.0) k.1

-- a registration leaves what is stated
context-one : (s : Session) (r : Registration) → (with_registration s r).context ≡ s.context
context-one s (law_registered w l) = refl
context-one s (corr_registered d) = refl
context-one s (relator_registered r) = refl
context-one s (form_registered p) = refl
context-one s (property_registered r) = refl
context-one s (domain_registered r) = refl
context-one s (rule_registered l) = refl
context-one s (quotient_registered e) = refl
context-one s (lifted_registered e) = refl
context-one s (transport_registered e) = refl

pub context-kept : (s : Session) (rs : List Registration) → (fold with_registration s rs).context ≡ s.context
context-kept s [] = refl
context-kept s (r ∷ rs) = context-kept (with_registration s r) rs ∙ context-one s r

-- additions leave what is kept, and what they state stays
add-all : (s t : Session) (items : List Addition) → IsInStepAt s.context t → IsInStepAt (fold with_addition s items).context t
add-all s t items h = record {
  laws = all-keep s items (map (λ p. p.1) t.laws) h.laws;
  relators = all-keep s items (flat_map relator_labels t.registry.relators) h.relators;
  forms = all-keep s items (flat_map form_labels t.registry.forms) h.forms;
  properties = all-keep s items (map (λ r. r.label) t.registry.property_rules) h.properties;
  domains = all-keep s items (map (λ r. r.label) t.registry.domain_rules) h.domains;
  rules = all-keep s items t.rules h.rules;
  quotients = all-keep s items (map (λ e. e.label) t.quotients) h.quotients;
  lifted = all-keep s items (flat_map lifted_labels t.lifted) h.lifted;
  transports = all-keep s items (map (λ e. e.label) t.transports) h.transports;
}

-- what additions leave of a session
added-same : (ctx : Context) (s : Session) (items : List Addition) → IsInStepAt ctx s → IsInStepAt ctx (fold with_addition s items)
added-same ctx s [] h = h
added-same ctx s (a ∷ items) h = added-same ctx (with_addition s a) items (record {
  laws = h.laws;
  relators = h.relators;
  forms = h.forms;
  properties = h.properties;
  domains = h.domains;
  rules = h.rules;
  quotients = h.quotients;
  lifted = h.lifted;
  transports = h.transports;
})

-- a label has a statement, or one of the additions states it
abbrev Known : Session → List Addition → Chars → Type 0
Known s items l = IsStated s.context l ⊎ States l items

-- each label has
abbrev AreKnown : Session → List Addition → List Chars → Type 0
AreKnown s items [] = Unit {0}
AreKnown s items (l ∷ ls) = Known s items l × AreKnown s items ls

-- each label of each registration has
abbrev AreAllKnown : Session → List Addition → List Registration → Type 0
AreAllKnown s items [] = Unit {0}
AreAllKnown s items (r ∷ rs) = AreKnown s items (labels_of r) × AreAllKnown s items rs

-- the same of a block
abbrev Registers : Session → Block → Type 0
Registers s b = AreAllKnown s b.additions b.registrations

known-stated : (s : Session) (items : List Addition) (l : Chars) → Known s items l → IsStated (fold with_addition s items).context l
known-stated s items l (inl h) = additions-keep l s items h
known-stated s items l (inr h) = additions-state l s items h

are-stated : (s : Session) (items : List Addition) (ls : List Chars) → AreKnown s items ls → AreStated (fold with_addition s items).context ls
are-stated s items [] h = tt
are-stated s items (l ∷ ls) h = (known-stated s items l h.0, are-stated s items ls h.1)

all-stated : (s : Session) (items : List Addition) (rs : List Registration) → AreAllKnown s items rs → AreAllStated (fold with_addition s items).context rs
all-stated s items [] h = tt
all-stated s items (r ∷ rs) h = (are-stated s items (labels_of r) h.0, all-stated s items rs h.1)

-- a label whose statement was found has one
found-known : (s : Session) (items : List Addition) (l : Chars) (t : TermTree) → statement_at s l ≡ Some t → Known s items l
found-known s items l t e = inl (ap is_some e)

optional-rule : (s : Session) (items : List Addition) (l : Chars) (o : Option TransferRule) → Known s items l
    → AreAllKnown s items (option_to_list (option_map (λ rule. rule_registered l) o))
optional-rule s items l None h = tt
optional-rule s items l (Some rule) h = ((h, tt), tt)

lifted-known : (s : Session) (n : Chars) (ty : TypeTree) (t : WithType) (l : Chars) (four : Four) → IsStated s.context l
    → EachBlock (Registers s) (adds_lifted s n ty t l four)
lifted-known s n ty t l four h =
    let transfer : WithType = four.corr · t · declared_constant n ty in
    let items : List Addition = this_item (def_item n ty ((four.abs · t).term)) ∷ lemma_of (n ++ codes "_transfer") transfer ∷ [] in (
      (inr (inl refl), (inl h, (inr (inr (inl refl)), tt))),
      optional-rule s items (n ++ codes "_transfer") (result_ok (rule_form (signature_of s) s.registry (n ++ codes "_transfer") transfer.term)) (inr (inr (inl refl))),
    )

in-rows : (s : Session) (c : Command) → EachBlock (Registers s) (row_of s c)
in-rows s (item_command i) = λ e. tt
in-rows s (law_command w l) = λ t e law f n. ((found-known s [] l t e, tt), tt)
in-rows s (corr_command c) = λ x e n. (tt, tt)
in-rows s (relator_command K R M E Q O) = λ eq e quot f comp g x h n m.
    let r : Relator = record { con = K; rel = R; mapping = M; eq = E; quot = Q; comp = O } in
    subst (λ (y : Relator). AreAllKnown s [] (relator_registered y ∷ [])) (sym (form-same (signature_of s) r eq quot comp x h))
    ((found-known s [] r.eq eq e, (found-known s [] r.quot quot f, (found-known s [] r.comp comp g, tt))), tt)
in-rows s (property_command l) = λ t e rule f n.
    ((subst (Known s []) (sym (property-label (signature_of s) s.registry l t rule f)) (found-known s [] l t e), tt), tt)
in-rows s (domain_command l) = λ t e rule f n.
    ((subst (Known s []) (sym (domain-label (signature_of s) s.registry l t rule f)) (found-known s [] l t e), tt), tt)
in-rows s (rule_command l) = λ t e rule f n. ((found-known s [] l t e, tt), tt)
in-rows s (lifting_command l) = λ t e n quot f m x g o p q u v.
    let same : quot.label ≡ l = (quotient-is (signature_of s) l t quot f).6 in
    (tt, ((inl (subst (IsStated s.context) (sym same) (ap is_some e)), tt), ((inr (inl refl), tt), ((inr (inr (inl refl)), tt), ((inr (inr (inr (inl refl))), tt), ((inr (inr (inr (inr (inl refl)))), tt), tt))))))
in-rows s (lifting_typedef_command q) = λ n t e m. ((inr (inr (inr (inl refl))), tt), (tt, ((inr (inr (inl refl)), tt), ((inr (inr (inr (inr (inl refl)))), tt), ((inr (inr (inr (inr (inr (inl refl))))), tt), ((inr (inr (inr (inr (inr (inr (inl refl)))))), tt), ((inr (inr (inr (inr (inr (inr (inr (inl refl))))))), tt), tt)))))))
in-rows s (quotient_type_command q params r l) = λ t e n m o p u v w. (tt, ((inr (inr (inr (inr (inr (inr (inl refl)))))), tt), ((inr (inr (inr (inr (inr (inr (inr (inl refl))))))), tt), ((inr (inr (inr (inr (inr (inr (inr (inr (inl refl)))))))), tt), ((inr (inr (inr (inr (inr (inr (inr (inr (inr (inl refl))))))))), tt), ((inr (inr (inr (inr (inr (inr (inr (inr (inr (inr (inl refl)))))))))), tt), tt))))))
in-rows s (lift_command n ty t l) = λ respects e m o q p u. lifted-known s n ty (with_its_type (signature_of s) t) l (four_of s.registry q) (ap is_some e)
in-rows s (parametric_command q) = λ n e f m o. ((inr (inr (inl refl)), (inr (inl refl), tt)), tt)
in-rows s (param_rule_command n l m) = λ t e u f o rule g p q v w. ((inr (inl refl), tt), tt)
in-rows s (equiv_command n t) = λ e f g image h normal. ((inr (inl refl), tt), tt)
in-rows s (implies_command n t) = λ e f g image h normal. ((inr (inl refl), tt), tt)
in-rows s (carry_command n e l) = λ transport f t g m. tt
in-rows s (abs_eq_command c) = λ e f n q. tt
in-rows s (rep_eq_command c) = λ e f n q m. tt

in-step-at : (s : Session) → IsInStep s → IsInStepAt s.context s
in-step-at s h = record {
  laws = h.laws;
  relators = h.relators;
  forms = h.forms;
  properties = h.properties;
  domains = h.domains;
  rules = h.rules;
  quotients = h.quotients;
  lifted = h.lifted;
  transports = h.transports;
}

at-in-step : (ctx : Context) (s : Session) → s.context ≡ ctx → IsInStepAt ctx s → IsInStep s
at-in-step ctx s e k = let h : IsInStepAt s.context s = subst (λ (c : Context). IsInStepAt c s) (sym e) k in record {
  laws = h.laws;
  relators = h.relators;
  forms = h.forms;
  properties = h.properties;
  domains = h.domains;
  rules = h.rules;
  quotients = h.quotients;
  lifted = h.lifted;
  transports = h.transports;
}

behind : (s : Session) (b : Block) → IsInStep s → Registers s b → IsInStep (session_behind s b)
behind s b h k =
    let ctx : Context = (fold with_addition s b.additions).context in
    at-in-step ctx (session_behind s b) (context-kept (fold with_addition s b.additions) b.registrations)
    (register-all ctx (fold with_addition s b.additions) b.registrations
    (added-same ctx s b.additions (add-all s s b.additions (in-step-at s h))) (all-stated s b.additions b.registrations k))

pub stay-in-step : SessionsStayInStep
stay-in-step s c b h k = behind s b h (comes-block (Registers s) s (row_of s c) b (in-rows s c)
    (comes-unless (first_wrong (tests_before s c)) (ComesOfRow s (row_of s c)) b k))
