-- The label of what is registered by a form is that of its statement.
use Rattle.std.specs.Prelude.{◌≡◌, Bool, true, false, Option, Some, None, Result, Ok, option_and_then, List, if◌then◌else◌, codes}
use Rattle.std.proofs.Common.{refl, subst, sym, ap}
use Rattle.lt_definitions.specs.Types.{Chars, TypeTree}
use Rattle.lt_definitions.specs.Terms.{TermTree, term_names}
use Rattle.lt_definitions.specs.Typing.{Signature}
use Rattle.lt_definitions.specs.Rules.{as_equation}
use Rattle.lt_transport_definitions.specs.Relations.{RelationVariable, Registry, PropertyRule, DomainRule}
use Rattle.lt_transport_definitions.specs.Answers.{needs, given, only_where}
use Rattle.lt_transport_definitions.specs.Reading.{body_of, prefix_of}
use Rattle.lt_transport_definitions.specs.Forms.{are_among, implied_by, all_sides, property_of_head, property_form, domain_head, domain_form}

-- what is said of a rule holds where nothing is wrong before it
needs-holds : {A : Type 0} (P : PropertyRule → Type 0) (o : Option A) (e : Chars) (f : A → Result PropertyRule Chars)
    → ((x : A) (r : PropertyRule) → f x ≡ Ok r → P r) → (r : PropertyRule) → needs o e f ≡ Ok r → P r
needs-holds P (Some x) e f h r k = h x r k
needs-holds P None e f h r k = absurd (cc)

ok-same : (x r : PropertyRule) → ◌≡◌ {A = Result PropertyRule Chars} (Ok x) (Ok r) → x ≡ r
ok-same x r e = cc

pub property-label : (sig : Signature) (G : Registry) (l : Chars) (t : TermTree) (rule : PropertyRule) → property_form sig G l t ≡ Ok rule → rule.label ≡ l
property-label sig G l t rule h =
    needs-holds (λ r. r.label ≡ l) (prefix_of t) (codes "Prefix") _ (λ xs.
    needs-holds (λ r. r.label ≡ l) (all_sides sig xs (implied_by (body_of t)).0) (codes "Premise") _ (λ sides.
    needs-holds (λ r. r.label ≡ l) (property_of_head sig G xs (implied_by (body_of t)).1) (codes "Head") _ (λ found r e.
    sym (ap (λ (q : PropertyRule). q.label) (ok-same _ r e))))) rule h

then-holds : {A : Type 0} (P : DomainRule → Type 0) (f : A → Option DomainRule) (o : Option A) → ((x : A) (r : DomainRule) → f x ≡ Some r → P r)
    → (r : DomainRule) → option_and_then f o ≡ Some r → P r
then-holds P f (Some x) h r k = h x r k
then-holds P f None h r k = absurd (cc)

if-holds : (P : DomainRule → Type 0) (b : Bool) (x r : DomainRule) → P x → (if b then Some x else None) ≡ Some r → P r
if-holds P true x r h e = let p : x ≡ r = cc in subst P p h
if-holds P false x r h e = absurd (cc)

-- what is made of an equation
abbrev pub domain_equation : Signature → Registry → Chars → List RelationVariable → TypeTree × TermTree × TermTree → Option DomainRule
domain_equation sig G l xs e =
    given (domain_head sig G xs e.1) λ h.
    only_where (are_among (term_names e.2) (term_names e.1))
    (record { label = l; head = h.0; variables = xs; type_arguments = h.1; domain = e.2 })

pub domain-label : (sig : Signature) (G : Registry) (l : Chars) (t : TermTree) (rule : DomainRule) → domain_form sig G l t ≡ Some rule → rule.label ≡ l
domain-label sig G l t rule h =
    then-holds (λ r. r.label ≡ l) (λ xs. option_and_then (domain_equation sig G l xs) (as_equation (body_of t))) (prefix_of t) (λ xs.
    then-holds (λ r. r.label ≡ l) (domain_equation sig G l xs) (as_equation (body_of t)) (λ e.
    then-holds (λ r. r.label ≡ l) _ (domain_head sig G xs e.1) (λ head r k.
    if-holds (λ q. q.label ≡ l) (are_among (term_names e.2) (term_names e.1)) _ r refl k))) rule h
