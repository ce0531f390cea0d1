-- What holds of expressions, one node after another, and what a side condition is.
use Rattle.std.proofs.Common.{◌≡◌, ◌∙◌, inl, inr, ℕ, zero, suc, ◌-◌, ◌≤◌, List, [], ◌∷◌, ◌++◌, map, length, take, drop, Bool, true, ◌&&◌, ◌||◌, Option, Some, None, refl, sym, ap, arith}
use Rattle.std.specs.List.{list_all}
use Rattle.std.proofs.lemmas.Bool.{or_cases, or_right, true≢false}
use Rattle.std.proofs.lemmas.List.{length-map, take-map, drop-map, map-append}
use Rattle.lt_definitions.specs.Types.{Chars, TypeTree}
use Rattle.lt_definitions.proofs.SameNames.{both-true, true-both}
use Rattle.lt_hol.specs.declared.property.Property.{Property}
use Rattle.lt_hol.specs.declared.property.Property.TheVariants.{LeftTotal, RightTotal, LeftUnique, RightUnique, BiTotal, BiUnique}
use Rattle.lt_transport_definitions.specs.Relations as registry
use Rattle.lt_transport_definitions.specs.Relations.{Relation, relation_variable, equality, constructed, Relations, no_relations, relation_and, relation_row, Registry, property_rule_for}
use Rattle.lt_transport_definitions.specs.Expressions.{is_equality, are_equalities}
use Rattle.lt_transport_definitions.specs.Below.{EachHolds, RuleHolds, Side, SideAt}
use Rattle.lt_expressions.specs.declared.rel.RelNode.{RelNode}
use Rattle.lt_expressions.specs.declared.rel.RelNode.TheVariants.{Var, Eq, Con}
use Rattle.lt_expressions.specs.Layout.{arguments, HasRoom}
use Rattle.lt_relations.specs.declared.holdings.Holding.{Holding}
use Rattle.lt_relations.specs.Told.{property_name, sides_told}
use Rattle.lt_relations.specs.Holdings.{rule_test, side_test, side_test_at, holding, has_property, premise_test, joined}

pub one-made : (G : Registry) (r : Relation) (made : List Holding) (h : Holding) → made ≡ map (holding G) (r ∷ []) → made ≡ h ∷ [] → h ≡ holding G r
one-made G r made h e k = first-same (sym k ∙ e)
  where
    first-same : {a b : Holding} → a ∷ [] ≡ b ∷ [] → a ≡ b
    first-same {a} {b} p = cc

pub room-count : (before : List Relation) (n : RelNode) → HasRoom before n → arguments n ≤ length before
room-count before (Var n t) r = omega arith
room-count before (Eq t) r = omega arith
room-count before (Con c ts ids) r = r

pub made-count : (G : Registry) (before : List Relation) (n : RelNode) (made : List Holding) (count : ℕ) → HasRoom before n → made ≡ map (holding G) before → count ≡ length made
    → arguments n ≤ count
made-count G before n made count r e k = let l : length made ≡ length before = ap length e ∙ simp length-map refl in omega (arith, room-count before n r, l, k)

-- ---- what holds of arguments

pub equalities-told : (G : Registry) (rs : List Relation) → list_all (λ h. h.equality) (map (holding G) rs) ≡ are_equalities G (relation_row rs)
equalities-told G [] = refl
equalities-told G (r ∷ rs) = ap (λ b. is_equality G r && b) (equalities-told G rs)

pub has-named : (G : Registry) (r : Relation) (p : Property) → has_property (holding G r) p ≡ side_test G r (property_name p)
has-named G r LeftTotal = refl
has-named G r RightTotal = refl
has-named G r LeftUnique = refl
has-named G r RightUnique = refl
has-named G r BiTotal = refl
has-named G r BiUnique = refl

premise-told : (G : Registry) (rs : List Relation) (p : Property) (i : ℕ) → premise_test (map (holding G) rs) (p, i) ≡ side_test_at G (relation_row rs) i (property_name p)
premise-told G [] p i = refl
premise-told G (r ∷ rs) p zero = has-named G r p
premise-told G (r ∷ rs) p (suc i) = premise-told G rs p i

pub premises-tested : (G : Registry) (rs : List Relation) (premises : List (Property × ℕ))
    → list_all (premise_test (map (holding G) rs)) premises ≡ list_all (λ s. side_test_at G (relation_row rs) s.1 s.0) (sides_told premises)
premises-tested G rs [] = refl
premises-tested G rs (s ∷ premises) = λ i. premise-told G rs s.0 s.1 i && premises-tested G rs premises i

-- all or nothing holds
abbrev pub all_holds : Bool → Holding
all_holds b = record { equality = b; left_total = b; right_total = b; left_unique = b; right_unique = b; bi_total = b; bi_unique = b }

pub all-so : (h : Holding) (b : Bool) → h.equality ≡ b → ((p : Property) → has_property h p ≡ b) → h ≡ all_holds b
all-so h b e f = λ i. record {
  equality = e i;
  left_total = f LeftTotal i;
  right_total = f RightTotal i;
  left_unique = f LeftUnique i;
  right_unique = f RightUnique i;
  bi_total = f BiTotal i;
  bi_unique = f BiUnique i;
}

pub last-told : (G : Registry) (before : List Relation) (made : List Holding) (h : Holding) (r : Relation) → made ≡ map (holding G) before → h ≡ holding G r
    → made ++ h ∷ [] ≡ map (holding G) (before ++ r ∷ [])
last-told G before made h r e k = (λ i. e i ++ k i ∷ []) ∙ sym (map-append (holding G) before (r ∷ []))

pub joined-told : (G : Registry) (before : List Relation) (c : Chars) (ts : List TypeTree) (n : ℕ) (made : List Holding) (h : Holding)
    → made ≡ map (holding G) before → h ≡ holding G (constructed c ts (relation_row (drop (length before - n) before)))
    → take (length made - n) made ++ h ∷ [] ≡ map (holding G) (joined c ts n before)
joined-told G before c ts n made h e k =
    (λ i. take (length (e i) - n) (e i) ++ k i ∷ [])
    ∙ simp (map-append, length-map, take-map) refl

pub dropped-told : (G : Registry) (before : List Relation) (n : ℕ) (made : List Holding) → made ≡ map (holding G) before
    → drop (length made - n) made ≡ map (holding G) (drop (length before - n) before)
dropped-told G before n made e = (λ i. drop (length (e i) - n) (e i)) ∙ simp (length-map, drop-map) refl

-- ---- the test is the side condition

each-from : (Holds : ℕ → registry.Property → Type 0) (test : ℕ → registry.Property → Bool) → ((i : ℕ) (p : registry.Property) → test i p ≡ true → Holds i p)
    → (sides : registry.Sides) → list_all (λ s. test s.1 s.0) sides ≡ true → EachHolds sides Holds
each-from Holds test f [] h = tt
each-from Holds test f (s ∷ sides) h =
    let parts = both-true (test s.1 s.0) (list_all (λ z. test z.1 z.0) sides) h in
    (f s.1 s.0 parts.0, each-from Holds test f sides parts.1)

each-to : (Holds : ℕ → registry.Property → Type 0) (test : ℕ → registry.Property → Bool) → ((i : ℕ) (p : registry.Property) → Holds i p → test i p ≡ true)
    → (sides : registry.Sides) → EachHolds sides Holds → list_all (λ s. test s.1 s.0) sides ≡ true
each-to Holds test f [] h = refl
each-to Holds test f (s ∷ sides) h = true-both (test s.1 s.0) (list_all (λ z. test z.1 z.0) sides) (f s.1 s.0 h.0) (each-to Holds test f sides h.1)

rule-from : (Holds : ℕ → registry.Property → Type 0) (test : ℕ → registry.Property → Bool) → ((i : ℕ) (p : registry.Property) → test i p ≡ true → Holds i p)
    → (o : Option registry.PropertyRule) → rule_test o test ≡ true → RuleHolds o Holds
rule-from Holds test f None h = absurd (true≢false (sym h))
rule-from Holds test f (Some rule) h = each-from Holds test f rule.premises h

rule-to : (Holds : ℕ → registry.Property → Type 0) (test : ℕ → registry.Property → Bool) → ((i : ℕ) (p : registry.Property) → Holds i p → test i p ≡ true)
    → (o : Option registry.PropertyRule) → RuleHolds o Holds → rule_test o test ≡ true
rule-to Holds test f None h = absurd h
rule-to Holds test f (Some rule) h = each-to Holds test f rule.premises h

mutual
  pub side-from : (G : Registry) (r : Relation) (p : registry.Property) → side_test G r p ≡ true → Side G r p
  side-from G (relation_variable n t) p h = absurd (true≢false (sym h))
  side-from G (equality t) p h = tt
  side-from G (constructed c ts rs) p h =
      elim (or_cases (is_equality G (constructed c ts rs)) (rule_test (property_rule_for G p c) (side_test_at G rs)) h) [
        | inl e ↦ inl e
        | inr e ↦ inr (rule-from (SideAt G rs) (side_test_at G rs) (side_at-from G rs) (property_rule_for G p c) e)
      ]

  side_at-from : (G : Registry) (rs : Relations) (i : ℕ) (p : registry.Property) → side_test_at G rs i p ≡ true → SideAt G rs i p
  side_at-from G no_relations i p h = absurd (true≢false (sym h))
  side_at-from G (relation_and r rs) zero p h = side-from G r p h
  side_at-from G (relation_and r rs) (suc i) p h = side_at-from G rs i p h

or_left : (a b : Bool) → a ≡ true → (a || b) ≡ true
or_left a b h = ap (λ c. c || b) h

mutual
  pub side-to : (G : Registry) (r : Relation) (p : registry.Property) → Side G r p → side_test G r p ≡ true
  side-to G (relation_variable n t) p h = absurd h
  side-to G (equality t) p h = refl
  side-to G (constructed c ts rs) p h = elim h [
    | inl e ↦ or_left (is_equality G (constructed c ts rs)) (rule_test (property_rule_for G p c) (side_test_at G rs)) e
    | inr e ↦ or_right (is_equality G (constructed c ts rs)) (rule_test (property_rule_for G p c) (side_test_at G rs))
        (rule-to (SideAt G rs) (side_test_at G rs) (side_at-to G rs) (property_rule_for G p c) e)
  ]

  side_at-to : (G : Registry) (rs : Relations) (i : ℕ) (p : registry.Property) → SideAt G rs i p → side_test_at G rs i p ≡ true
  side_at-to G no_relations i p h = absurd h
  side_at-to G (relation_and r rs) zero p h = side-to G r p h
  side_at-to G (relation_and r rs) (suc i) p h = side_at-to G rs i p h
