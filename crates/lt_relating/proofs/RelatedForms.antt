-- The parts of formulas that say that terms are related, and their types.
use Rattle.std.proofs.Common.{◌≡◌, inl, inr, ℕ, zero, suc, ◌<◌, List, [], ◌∷◌, length, get_or, Bool, true, false, nat_eq, if◌then◌else◌, Option, Some, None, Ok, refl, sym, ◌∙◌, ap, subst, arith}
use Rattle.std.specs.Option.{option_and_then, option_map}
use Rattle.std.specs.List.{All}
use Rattle.std.proofs.lemmas.Bool.{cases_Bool, cond-true, cond-false}
use Rattle.std.proofs.lemmas.Bool.Decides.{nat_tests}
use Rattle.lt_definitions.specs.Types.{TypeTree, bool, fun, row}
use Rattle.lt_definitions.specs.Typing.{Signature, types_fault}
use Rattle.lt_nameless.specs.Nameless.{Nameless, nameless_free, nameless_bound, nameless_loose, nameless_constant, nameless_application, nameless_abstraction}
use Rattle.lt_nameless.specs.NamelessRules.{nameless_fault}
use Rattle.lt_store.specs.declared.node.Node.{Node}
use Rattle.lt_store.specs.Trees.{tree_at, trees, AllBelow}
use Rattle.lt_store.specs.Typed.{IsTyped}
use Rattle.lt_programs.specs.TypedTerms.{IsOfType}
use Rattle.lt_programs.proofs.TypedTermLemmas.{application-parts, of-sound}
use Rattle.lt_relating.specs.TypedRelations.{relation_type, related}
use Rattle.lt_relating.specs.RelatedSteps.{as_related, four_types, as_applied}
use Rattle.lt_relating.proofs.RelatorLemmas.{constant-types}
use Rattle.lt_relating.proofs.OutcomeSteps.{then-some, map-some}

pub related-is : (p : Nameless) (v : Nameless × Nameless × Nameless) → as_related p ≡ Some v → p ≡ related v.0 v.1 v.2
related-is (nameless_application (nameless_application r x) y) v e = let same : (r, x, y) ≡ v = cc e in ap (λ (w : Nameless × Nameless × Nameless). related w.0 w.1 w.2) same
related-is p v e = absurd (cc e)

four-are : (p : Nameless) (ts : List TypeTree) → four_types p ≡ Some ts → (k : List ℕ) × (p ≡ nameless_constant k ts) × (length ts ≡ 4)
four-are (nameless_constant k us) ts e = elim (cases_Bool (nat_eq (length us) 4)) [
  | inl h ↦ let some : Some us ≡ Some ts = sym (cond-true (nat_eq (length us) 4) (Some us) None h) ∙ e in
      let same : us ≡ ts = cc some in (k, ap (nameless_constant k) same, ap length (sym same) ∙ four (length us) h)
  | inr h ↦ let none : None ≡ Some ts = sym (cond-false (nat_eq (length us) 4) (Some us) None h) ∙ e in absurd (cc none)
]
  where
    four : (n : ℕ) → nat_eq n 4 ≡ true → n ≡ 4
    four n h = grind (arith, nat_tests)
four-are p ts e = absurd (cc e)

-- K R S f g and Q x y
pub record Applied (p q : Nameless) (ts : List TypeTree) (us : List Nameless) : Type 0 where
  pub k : List ℕ
  pub r : Nameless
  pub s : Nameless
  pub f : Nameless
  pub g : Nameless
  pub w : Nameless
  pub x : Nameless
  pub y : Nameless
  pub first : p ≡ related (related (nameless_constant k ts) r s) f g
  pub second : q ≡ related w x y
  pub terms : us ≡ r ∷ s ∷ f ∷ g ∷ x ∷ y ∷ []
  pub four : length ts ≡ 4

pub applied-are : (p q : Nameless) (ts : List TypeTree) (us : List Nameless) → as_applied p q ≡ Some (ts, us) → Applied p q ts us
applied-are p q ts us e =
    let v = then-some (λ v. option_and_then (λ w. option_and_then (λ u. option_map (λ ts. (ts, w.1 ∷ w.2 ∷ v.1 ∷ v.2 ∷ u.1 ∷ u.2 ∷ [])) (four_types w.0)) (as_related q)) (as_related v.0)) (as_related p) (ts, us) e in
    let w = then-some (λ w. option_and_then (λ u. option_map (λ ts. (ts, w.1 ∷ w.2 ∷ v.0.1 ∷ v.0.2 ∷ u.1 ∷ u.2 ∷ [])) (four_types w.0)) (as_related q)) (as_related v.0.0) (ts, us) v.2 in
    let u = then-some (λ u. option_map (λ ts. (ts, w.0.1 ∷ w.0.2 ∷ v.0.1 ∷ v.0.2 ∷ u.1 ∷ u.2 ∷ [])) (four_types w.0.0)) (as_related q) (ts, us) w.2 in
    let o = map-some (λ ts. (ts, w.0.1 ∷ w.0.2 ∷ v.0.1 ∷ v.0.2 ∷ u.0.1 ∷ u.0.2 ∷ [])) (four_types w.0.0) (ts, us) u.2 in
    let types : o.0 ≡ ts = ap (λ (d : List TypeTree × List Nameless). d.0) o.2 in
    let k = four-are w.0.0 o.0 o.1 in
    record {
      k = k.0;
      r = w.0.1;
      s = w.0.2;
      f = v.0.1;
      g = v.0.2;
      w = u.0.0;
      x = u.0.1;
      y = u.0.2;
      first = related-is p v.0 v.1 ∙ ap (λ h. related h v.0.1 v.0.2) (related-is v.0.0 w.0 w.1 ∙ ap (λ h. related h w.0.1 w.0.2) (k.1 ∙ ap (nameless_constant k.0) types));
      second = related-is q u.0 u.1;
      terms = sym (ap (λ (d : List TypeTree × List Nameless). d.1) o.2);
      four = ap length (sym types) ∙ k.2;
    }

-- ---- types of parts

-- the parts of R x y have types that fit
pub record RelatedTypes (sig : Signature) (r x y : Nameless) : Type 0 where
  pub from : TypeTree
  pub to : TypeTree
  pub relation : IsOfType sig r (relation_type from to)
  pub left : IsOfType sig x from
  pub right : IsOfType sig y to

pub related-types : (sig : Signature) (r x y : Nameless) → IsOfType sig (related r x y) bool → RelatedTypes sig r x y
related-types sig r x y e =
    let h = application-parts sig (nameless_application r x) y bool e in
    let k = application-parts sig r x (fun h.0 bool) h.1 in
    record { from = k.0; to = h.0; relation = k.1; left = k.2; right = h.2 }

abbrev pub AllFine : Signature → List Nameless → Type 0
AllFine sig [] = Unit {0}
AllFine sig (t ∷ ts) = (nameless_fault sig t ≡ None) × AllFine sig ts

pub all-typed : (sig : Signature) (ns : List Node) (ids : List ℕ) → AllBelow (length ns) ids → AllFine sig (trees ns ids) → All (IsTyped sig ns) ids
all-typed sig ns [] below h k d l = absurd (omega (arith, l))
all-typed sig ns (id ∷ ids) below h zero d l = record { within = below 0 d (omega arith); typed = h.0 }
all-typed sig ns (id ∷ ids) below h (suc k) d l = all-typed sig ns ids (λ j e m. below (suc j) e (omega (arith, m))) h.1 k d (omega (arith, l))

-- the terms of both, and the types of K
module _ (sig : Signature) (p q : Nameless) (ts : List TypeTree) (us : List Nameless) (a : Applied p q ts us) (hp : IsOfType sig p bool) (hq : IsOfType sig q bool) where
  abbrev head : Nameless
  head = nameless_constant a.k ts

  pub applied-fine : AllFine sig us
  applied-fine =
      let first = related-types sig (related head a.r a.s) a.f a.g (subst (λ t. IsOfType sig t bool) a.first hp) in
      let second = related-types sig a.w a.x a.y (subst (λ t. IsOfType sig t bool) a.second hq) in
      let outer = application-parts sig (nameless_application head a.r) a.s (relation_type first.from first.to) first.relation in
      let inner = application-parts sig head a.r (fun outer.0 (relation_type first.from first.to)) outer.1 in
      subst (AllFine sig) (sym a.terms) (
        of-sound sig a.r inner.0 inner.2,
        (
          of-sound sig a.s outer.0 outer.2,
          (
            of-sound sig a.f first.from first.left,
            (
              of-sound sig a.g first.to first.right,
              (of-sound sig a.x second.from second.left, (of-sound sig a.y second.to second.right, tt)),
            ),
          ),
        ),
      )

  pub applied-types : types_fault sig (row ts) ≡ None
  applied-types =
      let first = related-types sig (related head a.r a.s) a.f a.g (subst (λ t. IsOfType sig t bool) a.first hp) in
      let outer = application-parts sig (nameless_application head a.r) a.s (relation_type first.from first.to) first.relation in
      let inner = application-parts sig head a.r (fun outer.0 (relation_type first.from first.to)) outer.1 in
      constant-types sig a.k ts (fun inner.0 (fun outer.0 (relation_type first.from first.to))) inner.1
