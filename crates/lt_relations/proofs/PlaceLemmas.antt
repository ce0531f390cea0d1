-- Rules that stand where their heads tell it.
use Rattle.std.proofs.Common.{◌≡◌, ◌∙◌, ◌⊎◌, inl, inr, ℕ, zero, suc, List, [], ◌∷◌, ◌++◌, length, take, find, slice_get, Bool, true, false, ◌&&◌, Option, Some, None, if◌then◌else◌, refl, sym, ap, subst, codes, nat_eq}
use Rattle.std.specs.Cmp.Lexicographic.{pointwise}
use Rattle.std.proofs.lemmas.Bool.{cond-true, cond-false}
use Rattle.std.proofs.lemmas.Option.{same_Some, none-some}
use Rattle.indexmap.specs.IndexMap.{insert_entry}
use Rattle.lt_definitions.specs.Types.{Chars, same_name, found}
use Rattle.lt_definitions.proofs.SameNames.{name-true, true-name, false-name, true-false, bool_cases, both-true}
use Rattle.lt_hol.specs.declared.property.Property.{Property}
use Rattle.lt_hol.specs.declared.property.Property.TheVariants.{LeftTotal, RightTotal, LeftUnique, RightUnique, BiTotal, BiUnique}
use Rattle.lt_transport_definitions.specs.Answers.{given, only_where}
use Rattle.lt_relations.specs.declared.entries.PropertyRule.{PropertyRule}
use Rattle.lt_relations.specs.declared.property_rules.Places.{Places}
use Rattle.lt_relations.specs.Told.{property_name}
use Rattle.lt_relations.specs.Places.{is_rule, rule_in, place_in, place_of, ArePlaced}

-- ---- properties are told by their names

abbrev named_property : Chars → Property
named_property x =
    if same_name x (codes "left_total") then LeftTotal else
    if same_name x (codes "right_total") then RightTotal else
    if same_name x (codes "left_unique") then LeftUnique else
    if same_name x (codes "right_unique") then RightUnique else
    if same_name x (codes "bi_total") then BiTotal else BiUnique

named-name : (p : Property) → named_property (property_name p) ≡ p
named-name LeftTotal = refl
named-name RightTotal = refl
named-name LeftUnique = refl
named-name RightUnique = refl
named-name BiTotal = refl
named-name BiUnique = refl

pub same-property : (p q : Property) → same_name (property_name p) (property_name q) ≡ true → p ≡ q
same-property p q e = sym (named-name p) ∙ ap named_property (name-true (property_name p) (property_name q) e) ∙ named-name q

-- ---- what is found in a list

-- What stands in a place and passes a test.
record IsAt {A : Type 0} (test : A → Bool) (xs : List A) (y : A) : Type 0 where
  place : ℕ
  at : slice_get xs place ≡ Some y
  passes : test y ≡ true

found-at : {A : Type 0} (test : A → Bool) (xs : List A) (y : A) → find test xs ≡ Some y → IsAt test xs y
found-at test [] y e = absurd (none-some y e)
found-at {A} test (x ∷ xs) y e = by (λ k. found-at test xs y k) (test x) refl
  where
    by : (find test xs ≡ Some y → IsAt test xs y) → (b : Bool) → test x ≡ b → IsAt test (x ∷ xs) y
    by later true t =
        let same : x ≡ y = same_Some x y (sym (cond-true (test x) (Some x) (find test xs) t) ∙ e) in
        record { place = zero; at = ap (λ (z : A). Some z) same; passes = subst (λ (z : A). test z ≡ true) same t }
    by later false t =
        let rest = later (sym (cond-false (test x) (Some x) (find test xs) t) ∙ e) in
        record { place = suc rest.place; at = rest.at; passes = rest.passes }

pub not-found : {A : Type 0} (test : A → Bool) (xs : List A) (i : ℕ) (y : A) → find test xs ≡ None → slice_get xs i ≡ Some y → test y ≡ false
not-found test [] i y n e = absurd (none-some y e)
not-found {A} test (x ∷ xs) zero y n e = elim (bool_cases (test x)) [
  | inl t ↦ absurd (none-some x (sym n ∙ cond-true (test x) (Some x) (find test xs) t))
  | inr f ↦ subst (λ (z : A). test z ≡ false) (same_Some x y e) f
]
not-found test (x ∷ xs) (suc i) y n e = elim (bool_cases (test x)) [
  | inl t ↦ absurd (none-some x (sym n ∙ cond-true (test x) (Some x) (find test xs) t))
  | inr f ↦ not-found test xs i y (sym (cond-false (test x) (Some x) (find test xs) f) ∙ n) e
]

slice-take : {A : Type 0} (n : ℕ) (xs : List A) (i : ℕ) (y : A) → slice_get (take n xs) i ≡ Some y → slice_get xs i ≡ Some y
slice-take zero xs i y e = absurd (none-some y e)
slice-take (suc n) [] i y e = absurd (none-some y e)
slice-take (suc n) (x ∷ xs) zero y e = e
slice-take (suc n) (x ∷ xs) (suc i) y e = slice-take n xs i y e

slice-last : {A : Type 0} (xs : List A) (y z : A) (i : ℕ) → slice_get (xs ++ y ∷ []) i ≡ Some z → (slice_get xs i ≡ Some z) ⊎ ((i ≡ length xs) × (y ≡ z))
slice-last [] y z zero e = inr (refl, same_Some y z e)
slice-last [] y z (suc i) e = absurd (none-some z e)
slice-last (x ∷ xs) y z zero e = inl e
slice-last (x ∷ xs) y z (suc i) e = elim (slice-last xs y z i e) [ inl h ↦ inl h | inr h ↦ inr (ap suc h.0, h.1) ]

-- ---- the places of rules

pub found-placed : (heads : List (Chars × Places)) (rules : List PropertyRule) (p : Property) (x : Chars) → ArePlaced heads rules
    → (given (place_of heads p x) λ i. rule_in rules p x i) ≡ find (is_rule p x) rules
found-placed heads rules p x h = by (find (is_rule p x) rules) refl (place_of heads p x) refl
  where
    told : (y : PropertyRule) (i : ℕ) → slice_get rules i ≡ Some y → is_rule p x y ≡ true → place_of heads p x ≡ Some i
    told y i e t =
        let s = both-true (same_name (property_name p) (property_name y.property)) (same_name x y.head) t in
        (λ k. place_of heads (same-property p y.property s.0 k) (name-true x y.head s.1 k)) ∙ h i y e

    none : find (is_rule p x) rules ≡ None → (o : Option ℕ) → (given o λ i. rule_in rules p x i) ≡ None
    none n None = refl
    none n (Some i) = at (slice_get rules i) refl
      where
        at : (r : Option PropertyRule) → slice_get rules i ≡ r → (given r λ y. only_where (is_rule p x y) y) ≡ None
        at None e = refl
        at (Some y) e = ap (λ (b : Bool). only_where b y) (not-found (is_rule p x) rules i y n e)

    by : (f : Option PropertyRule) → find (is_rule p x) rules ≡ f → (o : Option ℕ) → place_of heads p x ≡ o → (given o λ i. rule_in rules p x i) ≡ f
    by None n o e = none n o
    by (Some y) n o e =
        let w = found-at (is_rule p x) rules y n in
        let place : o ≡ Some w.place = sym e ∙ told y w.place w.at w.passes in
        ap (λ q. given q λ i. rule_in rules p x i) place
        ∙ ap (λ r. given r λ z. only_where (is_rule p x z) z) w.at
        ∙ ap (λ (b : Bool). only_where b y) w.passes

pub placed-cut : (heads : List (Chars × Places)) (rules : List PropertyRule) (n : ℕ) → ArePlaced heads rules → ArePlaced heads (take n rules)
placed-cut heads rules n h i r e = h i r (slice-take n rules i r e)

-- what is found where a pair was set
found-inserted : {A : Type 0} (x k : Chars) (v : A) (es : List (Chars × A)) → found x (insert_entry (pointwise nat_eq) es k v) ≡ (if same_name x k then Some v else found x es)
found-inserted x k v [] = refl
found-inserted {A} x k v (e ∷ es) = by (found-inserted x k v es) (same_name k e.0) refl (same_name x e.0) refl
  where
    by : found x (insert_entry (pointwise nat_eq) es k v) ≡ (if same_name x k then Some v else found x es)
        → (b : Bool) → same_name k e.0 ≡ b → (c : Bool) → same_name x e.0 ≡ c
        → found x (if same_name k e.0 then (e.0, v) ∷ es else e ∷ insert_entry (pointwise nat_eq) es k v) ≡ (if same_name x k then Some v else found x (e ∷ es))
    by later true t true s =
        let xk : same_name x k ≡ true = true-name x k (name-true x e.0 s ∙ sym (name-true k e.0 t)) in
        ap (found x) (cond-true (same_name k e.0) ((e.0, v) ∷ es) (e ∷ insert_entry (pointwise nat_eq) es k v) t)
        ∙ cond-true (same_name x e.0) (Some v) (found x es) s ∙ sym (cond-true (same_name x k) (Some v) (found x (e ∷ es)) xk)
    by later true t false s =
        let xk : same_name x k ≡ false = subst (λ y. same_name x y ≡ false) (sym (name-true k e.0 t)) s in
        ap (found x) (cond-true (same_name k e.0) ((e.0, v) ∷ es) (e ∷ insert_entry (pointwise nat_eq) es k v) t)
        ∙ cond-false (same_name x e.0) (Some v) (found x es) s ∙ sym (cond-false (same_name x e.0) (Some e.1) (found x es) s)
        ∙ sym (cond-false (same_name x k) (Some v) (found x (e ∷ es)) xk)
    by later false t true s =
        let xk : same_name x k ≡ false = false-name x k (λ q. true-false (sym (true-name k e.0 (sym q ∙ name-true x e.0 s)) ∙ t)) in
        ap (found x) (cond-false (same_name k e.0) ((e.0, v) ∷ es) (e ∷ insert_entry (pointwise nat_eq) es k v) t)
        ∙ cond-true (same_name x e.0) (Some e.1) (found x (insert_entry (pointwise nat_eq) es k v)) s
        ∙ sym (cond-true (same_name x e.0) (Some e.1) (found x es) s) ∙ sym (cond-false (same_name x k) (Some v) (found x (e ∷ es)) xk)
    by later false t false s =
        ap (found x) (cond-false (same_name k e.0) ((e.0, v) ∷ es) (e ∷ insert_entry (pointwise nat_eq) es k v) t)
        ∙ cond-false (same_name x e.0) (Some e.1) (found x (insert_entry (pointwise nat_eq) es k v)) s ∙ later
        ∙ ap (λ o. if same_name x k then Some v else o) (sym (cond-false (same_name x e.0) (Some e.1) (found x es) s))

-- a head's places where those of a head are set
pub place-inserted : (heads : List (Chars × Places)) (head x : Chars) (places : Places) (p : Property)
    → place_of (insert_entry (pointwise nat_eq) heads head places) p x ≡ (if same_name x head then place_in places p else place_of heads p x)
place-inserted heads head x places p =
    ap (λ o. given o λ s. place_in s p) (found-inserted x head places heads) ∙ by (same_name x head)
  where
    by : (b : Bool) → (given (if b then Some places else found x heads) λ s. place_in s p) ≡ (if b then place_in places p else place_of heads p x)
    by true = refl
    by false = refl

-- Places with one more are told of the rules that there were, since these aren't of its property
-- and head.
pub placed-before : (heads : List (Chars × Places)) (rules : List PropertyRule) (rule : PropertyRule) (old new : Places) (place : ℕ)
    → ArePlaced heads rules → find (is_rule rule.property rule.head) rules ≡ None
    → ((p : Property) → place_in old p ≡ place_of heads p rule.head)
    → ((p : Property) → place_in new p ≡ (if same_name (property_name rule.property) (property_name p) then Some place else place_in old p))
    → ArePlaced (insert_entry (pointwise nat_eq) heads rule.head new) rules
placed-before heads rules rule old new place h n o w i r e =
    place-inserted heads rule.head r.head new r.property ∙ by (same_name r.head rule.head) refl
  where
    by : (b : Bool) → same_name r.head rule.head ≡ b → (if same_name r.head rule.head then place_in new r.property else place_of heads r.property r.head) ≡ Some i
    by false s = cond-false (same_name r.head rule.head) (place_in new r.property) (place_of heads r.property r.head) s ∙ h i r e
    by true s =
        let same : r.head ≡ rule.head = name-true r.head rule.head s in
        let other = not-found (is_rule rule.property rule.head) rules i r n e in
        cond-true (same_name r.head rule.head) (place_in new r.property) (place_of heads r.property r.head) s
        ∙ w r.property
        ∙ cond-false (same_name (property_name rule.property) (property_name r.property)) (Some place) (place_in old r.property)
        (first-false (same_name (property_name rule.property) (property_name r.property)) (same_name rule.head r.head) other (true-name rule.head r.head (sym same)))
        ∙ o r.property ∙ ap (place_of heads r.property) (sym same) ∙ h i r e
      where
        first-false : (a b : Bool) → (a && b) ≡ false → b ≡ true → a ≡ false
        first-false false b e t = refl
        first-false true b e t = absurd (true-false (sym t ∙ e))

-- and of the one more
pub placed-more : (heads : List (Chars × Places)) (rules : List PropertyRule) (rule : PropertyRule) (old new : Places) (place : ℕ)
    → ArePlaced (insert_entry (pointwise nat_eq) heads rule.head new) rules → place ≡ length rules
    → ((p : Property) → place_in new p ≡ (if same_name (property_name rule.property) (property_name p) then Some place else place_in old p))
    → ArePlaced (insert_entry (pointwise nat_eq) heads rule.head new) (rules ++ rule ∷ [])
placed-more heads rules rule old new place h n w i r e = elim (slice-last rules rule r i e) [
  | inl b ↦ h i r b
  | inr b ↦ subst (λ (q : PropertyRule). place_of (insert_entry (pointwise nat_eq) heads rule.head new) q.property q.head ≡ Some i) b.1 (last b.0)
]
  where
    last : i ≡ length rules → place_of (insert_entry (pointwise nat_eq) heads rule.head new) rule.property rule.head ≡ Some i
    last m =
        place-inserted heads rule.head rule.head new rule.property
        ∙ cond-true (same_name rule.head rule.head) (place_in new rule.property) (place_of heads rule.property rule.head) (true-name rule.head rule.head refl)
        ∙ w rule.property
        ∙ cond-true (same_name (property_name rule.property) (property_name rule.property)) (Some place) (place_in old rule.property)
        (true-name (property_name rule.property) (property_name rule.property) refl)
        ∙ ap Some (n ∙ sym m)

pub placed-same : (heads later : List (Chars × Places)) (rules kept : List PropertyRule) → later ≡ heads → kept ≡ rules → ArePlaced heads rules → ArePlaced later kept
placed-same heads later rules kept p q h =
    subst (λ (rs : List PropertyRule). ArePlaced later rs) (sym q) (subst (λ (hs : List (Chars × Places)). ArePlaced hs rules) (sym p) h)
