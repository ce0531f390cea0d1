-- There is one quotient between two types.
use Rattle.std.proofs.Common.{◌≡◌, List, refl, sym, ap, ◌∙◌, subst}
use Rattle.lt_definitions.specs.Types.{TypeTree, TypeTrees, no_types, type_and}
use Rattle.lt_transport_definitions.specs.Relations.{Registry}
use Rattle.lt_transport_definitions.specs.Expressions.{arguments_of}
use Rattle.lt_transport_definitions.specs.Sessions.{QuotientEntry}
use Rattle.lt_transport_definitions.specs.Quotients.{raw_at, Quot, identity_quotient, relator_quotient, registered_quotient, composed_quotient, no_quotient_between, Quots, no_quots, quot_and, QuotCase, equal_types, one_relator, that_quotient, another_raw_type, nothing, case_of, IsQuotBetween, AreQuotsBetween}
use Rattle.lt_transport_laws.specs.Statements.{QuotientsAreOne}

-- the case of a node
abbrev case_at : Quot → QuotCase
case_at (identity_quotient t) = equal_types
case_at (relator_quotient K qs) = one_relator
case_at (registered_quotient e ts) = that_quotient e ts
case_at (composed_quotient q e ts) = another_raw_type e ts
case_at (no_quotient_between abs raw) = nothing

case-is : (G : Registry) (es : List QuotientEntry) (abs raw : TypeTree) (q : Quot) → IsQuotBetween G es abs raw q
    → case_of G es abs raw ≡ case_at q
case-is G es abs raw (identity_quotient t) h = h.0
case-is G es abs raw (relator_quotient K qs) h = h.0
case-is G es abs raw (registered_quotient e ts) h = h
case-is G es abs raw (composed_quotient q e ts) h = h.0
case-is G es abs raw (no_quotient_between a r) h = h.0

mutual
  one-quot : (G : Registry) (es : List QuotientEntry) (abs raw : TypeTree) (q r : Quot) → IsQuotBetween G es abs raw q → IsQuotBetween G es abs raw r
      → case_at q ≡ case_at r → q ≡ r
  one-quot G es abs raw (identity_quotient t) (identity_quotient u) h k c = ap identity_quotient (h.1 ∙ sym k.1)
  one-quot G es abs raw (relator_quotient K qs) (relator_quotient L rs) h k c =
      let x : K ≡ L = h.1 ∙ sym k.1 in
      let y : qs ≡ rs = one-quots G es (arguments_of abs) (arguments_of raw) qs rs h.2 k.2 in (λ i. relator_quotient (x i) (y i))
  one-quot G es abs raw (registered_quotient e ts) (registered_quotient f us) h k c =
      let x : e ≡ f = cc in
      let y : ts ≡ us = cc in (λ i. registered_quotient (x i) (y i))
  one-quot G es abs raw (composed_quotient q e ts) (composed_quotient r f us) h k c =
      let x : e ≡ f = cc in
      let y : ts ≡ us = cc in
      let m : raw_at f us ≡ raw_at e ts = λ i. raw_at (sym x i) (sym y i) in
      let l = subst (λ (mid : TypeTree). IsQuotBetween G es mid raw r) m k.1 in
      let z : q ≡ r = one-quot G es (raw_at e ts) raw q r h.1 l (sym (case-is G es (raw_at e ts) raw q h.1) ∙ case-is G es (raw_at e ts) raw r l) in
      (λ i. composed_quotient (z i) (x i) (y i))
  one-quot G es abs raw (no_quotient_between a r) (no_quotient_between a' r') h k c =
      let x : a ≡ a' = h.1 ∙ sym k.1 in
      let y : r ≡ r' = h.2 ∙ sym k.2 in (λ i. no_quotient_between (x i) (y i))
  one-quot G es abs raw _ _ h k c = absurd (cc)

  one-quots : (G : Registry) (es : List QuotientEntry) (ts us : TypeTrees) (qs rs : Quots) → AreQuotsBetween G es ts us qs → AreQuotsBetween G es ts us rs → qs ≡ rs
  one-quots G es no_types no_types no_quots no_quots h k = refl
  one-quots G es (type_and t ts) (type_and u us) (quot_and q qs) (quot_and r rs) h k =
      let x : q ≡ r = one-quot G es t u q r h.0 k.0 (sym (case-is G es t u q h.0) ∙ case-is G es t u r k.0) in
      let y : qs ≡ rs = one-quots G es ts us qs rs h.1 k.1 in (λ i. quot_and (x i) (y i))
  one-quots G es no_types no_types no_quots (quot_and r rs) h k = absurd k
  one-quots G es no_types no_types (quot_and q qs) rs h k = absurd h
  one-quots G es no_types (type_and u us) qs rs h k = absurd h
  one-quots G es (type_and t ts) no_types qs rs h k = absurd h
  one-quots G es (type_and t ts) (type_and u us) no_quots rs h k = absurd h
  one-quots G es (type_and t ts) (type_and u us) (quot_and q qs) no_quots h k = absurd k

pub quotients-one : QuotientsAreOne
quotients-one G es abs raw q r h k = one-quot G es abs raw q r h k (sym (case-is G es abs raw q h) ∙ case-is G es abs raw r k)
