-- There is a quotient between two types: by the order in which constructors are declared, and for each of them by the parts of a type.
use Rattle.std.specs.Prelude.{◌≡◌, ℕ, zero, suc, ◌<◌, List, [], ◌∷◌, ◌++◌, Bool, true, false, ◌||◌, not, if◌then◌else◌, Option, Some, None, map, length, option_map, is_some, unwrap_or, nat_eq}
use Rattle.std.specs.List.{list_all, zip}
use Rattle.std.proofs.Common.{refl, sym, ap, ◌∙◌, subst, inl, inr, arith}
use Rattle.std.proofs.lemmas.Bool.{and_parts, and_from, or_cases}
use Rattle.std.proofs.lemmas.Bool.Decides.{nat_tests}
use Rattle.lt_definitions.specs.Types.{Chars, same_name, found, TypeTree, type_variable, type_constructor, TypeTrees, no_types, type_and, listed, row, same_type, type_instance, types_instance, type_variables}
use Rattle.lt_definitions.specs.Typing.{Signature, Fault, arity, constructor_fault, type_fault, types_fault, declared_arity, earlier}
use Rattle.lt_definitions.proofs.SameNames.{true-false, bool_cases, name-true}
use Rattle.lt_nameless.proofs.BindingLemmas.{if-true, if-false}
use Rattle.lt_nameless.proofs.StatementTypes.{instance-sound}
use Rattle.lt_transport_definitions.specs.Relations.{Registry, relator_for}
use Rattle.lt_transport_definitions.specs.Forms.{constructor_name}
use Rattle.lt_transport_definitions.specs.Sessions.{QuotientEntry, quotient_of}
use Rattle.lt_transport_definitions.specs.Quotients.{raw_at, Quot, identity_quotient, relator_quotient, registered_quotient, composed_quotient, no_quotient_between, Quots, no_quots, quot_and, QuotCase, equal_types, one_relator, that_quotient, another_raw_type, have_one_relator, entry_of, case_by, case_of, IsQuotBetween, AreQuotsBetween}
use Rattle.lt_transport_definitions.specs.QuotientBlocks.{constructors_in, constructors_in_all, comes_before}
use Rattle.lt_transport_laws.specs.QuotientStatements.{IsInOrder, AreInOrder, QuotientsExist}

-- how many names stand before the first place of a name
abbrev rank : List Chars → Chars → ℕ
rank [] c = 0
rank (x ∷ xs) c = if same_name x c then 0 else suc (rank xs c)

not-true : (b : Bool) → not b ≡ true → b ≡ false
not-true true e = absurd (true-false (sym e))
not-true false e = refl

-- what comes before has the smaller number
rank-before : (xs : List Chars) (c q : Chars) → comes_before c q xs ≡ true → rank xs c < rank xs q
rank-before [] c q e = absurd (true-false (sym e))
rank-before (x ∷ xs) c q e =
    let h = and_parts (not (same_name x q)) (same_name x c || comes_before c q xs) e in
    let n : rank (x ∷ xs) q ≡ suc (rank xs q) = if-false (same_name x q) 0 (suc (rank xs q)) (not-true (same_name x q) h.0) in
    elim (bool_cases (same_name x c)) [
      | inl s ↦ let m : rank (x ∷ xs) c ≡ 0 = if-true (same_name x c) 0 (suc (rank xs c)) s in omega arith
      | inr s ↦ elim (or_cases (same_name x c) (comes_before c q xs) h.1) [
        | inl t ↦ absurd (true-false (sym t ∙ s))
        | inr t ↦
            let m : rank (x ∷ xs) c ≡ suc (rank xs c) = if-false (same_name x c) 0 (suc (rank xs c)) s in
            let i : rank xs c < rank xs q = rank-before xs c q t in omega arith
      ]
    ]

-- each constructor in a type has a number below this one
abbrev mutual
  IsUnder : List Chars → ℕ → TypeTree → Type 0
  IsUnder xs n (type_variable a) = Unit {0}
  IsUnder xs n (type_constructor c ts) = (rank xs c < n) × AreUnder xs n ts

  AreUnder : List Chars → ℕ → TypeTrees → Type 0
  AreUnder xs n no_types = Unit {0}
  AreUnder xs n (type_and t ts) = IsUnder xs n t × AreUnder xs n ts

all-parts : {A : Type 0} (test : A → Bool) (xs ys : List A) → list_all test (xs ++ ys) ≡ true → (list_all test xs ≡ true) × (list_all test ys ≡ true)
all-parts test [] ys e = (refl, e)
all-parts test (x ∷ xs) ys e =
    let h = and_parts (test x) (list_all test (xs ++ ys)) e in
    let k = all-parts test xs ys h.1 in
    (and_from (test x) (list_all test xs) h.0 k.0, k.1)

mutual
  under-ordered : (xs : List Chars) (q : Chars) (n : ℕ) → rank xs q < suc n → (t : TypeTree)
      → list_all (λ c. comes_before c q xs) (constructors_in t) ≡ true → IsUnder xs n t
  under-ordered xs q n r (type_variable a) e = tt
  under-ordered xs q n r (type_constructor c ts) e =
      let h = and_parts (comes_before c q xs) (list_all (λ d. comes_before d q xs) (constructors_in_all ts)) e in
      let i : rank xs c < rank xs q = rank-before xs c q h.0 in
      (omega arith, all-under-ordered xs q n r ts h.1)

  all-under-ordered : (xs : List Chars) (q : Chars) (n : ℕ) → rank xs q < suc n → (ts : TypeTrees)
      → list_all (λ c. comes_before c q xs) (constructors_in_all ts) ≡ true → AreUnder xs n ts
  all-under-ordered xs q n r no_types e = tt
  all-under-ordered xs q n r (type_and t ts) e =
      let h = all-parts (λ c. comes_before c q xs) (constructors_in t) (constructors_in_all ts) e in
      (under-ordered xs q n r t h.0, all-under-ordered xs q n r ts h.1)

-- there is a quotient between a type and each that has no fault
abbrev IsGood : Registry → List QuotientEntry → Signature → TypeTree → Type 0
IsGood G es sig t = (raw : TypeTree) → type_fault sig raw ≡ None → (q : Quot) × IsQuotBetween G es t raw q

abbrev AreGood : Registry → List QuotientEntry → Signature → TypeTrees → Type 0
AreGood G es sig no_types = Unit {0}
AreGood G es sig (type_and t ts) = IsGood G es sig t × AreGood G es sig ts

first-none : (e f : Option Fault) → earlier e f ≡ None → (e ≡ None) × (f ≡ None)
first-none None f h = (refl, h)
first-none (Some x) f h = absurd (cc)

-- quotients of arguments
quots-exist : (G : Registry) (es : List QuotientEntry) (sig : Signature) (ts us : TypeTrees) → AreGood G es sig ts → types_fault sig us ≡ None
    → length (listed ts) ≡ length (listed us) → (qs : Quots) × AreQuotsBetween G es ts us qs
quots-exist G es sig no_types no_types g e l = (no_quots, tt)
quots-exist G es sig (type_and t ts) (type_and u us) g e l =
    let h = first-none (type_fault sig u) (types_fault sig us) e in
    let q = g.0 u h.0 in
    let k : length (listed ts) ≡ length (listed us) = omega arith in
    let qs = quots-exist G es sig ts us g.1 h.1 k in
    (quot_and q.0 qs.0, (q.1, qs.1))
quots-exist G es sig no_types (type_and u us) g e l = absurd (omega arith)
quots-exist G es sig (type_and t ts) no_types g e l = absurd (omega arith)

-- the number of arguments of a type without a fault is the declared one
number-is : (c : Chars) (n k : ℕ) → constructor_fault c n (Some k) ≡ None → n ≡ k
number-is c n k e = elim (bool_cases (nat_eq n k)) [
  | inl s ↦ same_numbers n k s
  | inr s ↦ absurd (some-none (arity c) (sym (if-false (nat_eq n k) None (Some (arity c)) s) ∙ e))
]
  where
    same_numbers : (n k : ℕ) → nat_eq n k ≡ true → n ≡ k
    same_numbers n k s = grind (arith, nat_tests)

    some-none : (x : Fault) → ◌≡◌ {A = Option Fault} (Some x) None → ⊥
    some-none x e = cc

count-is : (c : Chars) (n m : ℕ) (o : Option ℕ) → constructor_fault c n o ≡ None → constructor_fault c m o ≡ None → n ≡ m
count-is c n m None e f = absurd (cc)
count-is c n m (Some k) e f = number-is c n k e ∙ sym (number-is c m k f)

-- the case as its tests tell it
abbrev case_from : Bool → Bool → Option (QuotientEntry × List TypeTree) → TypeTree → QuotCase
case_from a b p raw = if a then equal_types else (if b then one_relator else case_by p raw)

case-from : (G : Registry) (es : List QuotientEntry) (abs raw : TypeTree) (a b : Bool) (p : Option (QuotientEntry × List TypeTree))
    → same_type abs raw ≡ a → have_one_relator G abs raw ≡ b → entry_of es abs ≡ p → case_of G es abs raw ≡ case_from a b p raw
case-from G es abs raw a b p x y z = λ i. case_from (x i) (y i) (z i) raw

-- between a type variable and any type
variable-good : (G : Registry) (es : List QuotientEntry) (sig : Signature) (a : Chars) → IsGood G es sig (type_variable a)
variable-good G es sig a raw e = elim (bool_cases (same_type (type_variable a) raw)) [
  | inl s ↦ (identity_quotient (type_variable a), (case-from G es (type_variable a) raw true false None s refl refl, refl))
  | inr s ↦ (no_quotient_between (type_variable a) raw, (case-from G es (type_variable a) raw false false None s refl refl, refl, refl))
]

value-good : (G : Registry) (es : List QuotientEntry) (sig : Signature) (vs : List Chars) (us : List TypeTree) (a : Chars) → AreGood G es sig (row us)
    → IsGood G es sig (unwrap_or (found a (zip vs us)) (type_variable a))
value-good G es sig [] us a g = variable-good G es sig a
value-good G es sig (v ∷ vs) [] a g = variable-good G es sig a
value-good G es sig (v ∷ vs) (u ∷ us) a g = elim (bool_cases (same_name a v)) [
  | inl k ↦ subst (λ (o : Option TypeTree). IsGood G es sig (unwrap_or o (type_variable a)))
      (sym (if-true (same_name a v) (Some u) (found a (zip vs us)) k)) g.0
  | inr k ↦ subst (λ (o : Option TypeTree). IsGood G es sig (unwrap_or o (type_variable a)))
      (sym (if-false (same_name a v) (Some u) (found a (zip vs us)) k)) (value-good G es sig vs us a g.1)
]

-- what a registered quotient's constructor tells
found-in-order : (sig : Signature) (es : List QuotientEntry) (c : Chars) (e : QuotientEntry) → AreInOrder sig es → quotient_of es c ≡ Some e
    → IsInOrder sig e × (c ≡ e.con)
found-in-order sig [] c e h f = absurd (cc)
found-in-order sig (d ∷ es) c e h f = elim (bool_cases (same_name c d.con)) [
  | inl s ↦
      let x : ◌≡◌ {A = Option QuotientEntry} (Some d) (Some e) = sym (if-true (same_name c d.con) (Some d) (quotient_of es c) s) ∙ f in
      let y : d ≡ e = cc in
      (subst (IsInOrder sig) y h.0, name-true c d.con s ∙ ap (λ (q : QuotientEntry). q.con) y)
  | inr s ↦ found-in-order sig es c e h.1 (sym (if-false (same_name c d.con) (Some d) (quotient_of es c) s) ∙ f)
]

entry-parts : (o : Option QuotientEntry) (ts : List TypeTree) (p : QuotientEntry × List TypeTree) → option_map (λ e. (e, ts)) o ≡ Some p
    → (o ≡ Some p.0) × (ts ≡ p.1)
entry-parts (Some e) ts p h = let x : ◌≡◌ {A = QuotientEntry × List TypeTree} (e, ts) p = cc in
    (ap (λ (y : QuotientEntry × List TypeTree). Some y.0) x, ap (λ (y : QuotientEntry × List TypeTree). y.1) x)
entry-parts None ts p h = absurd (cc)

row-listed : (ts : TypeTrees) → row (listed ts) ≡ ts
row-listed no_types = refl
row-listed (type_and t ts) = ap (type_and t) (row-listed ts)

-- the names of the declared types
abbrev type_names_of : Signature → List Chars
type_names_of sig = map (λ p. p.0) sig.types

-- each instance of a type whose constructors have numbers below this one is good, where what is put for its variables is
abbrev AreGoodBelow : Registry → List QuotientEntry → Signature → ℕ → Type 0
AreGoodBelow G es sig n = (vs : List Chars) (us : List TypeTree) (t : TypeTree) → types_fault sig (row us) ≡ None → AreGood G es sig (row us)
    → type_fault sig t ≡ None → IsUnder (type_names_of sig) n t → IsGood G es sig (type_instance (zip vs us) t)

-- by a registered quotient
by-entry : (G : Registry) (es : List QuotientEntry) (sig : Signature) → AreInOrder sig es → (m : ℕ) → AreGoodBelow G es sig m
    → (c : Chars) (ts : TypeTrees) → rank (type_names_of sig) c < suc m → types_fault sig ts ≡ None → AreGood G es sig ts
    → (raw : TypeTree) → type_fault sig raw ≡ None → same_type (type_constructor c ts) raw ≡ false → have_one_relator G (type_constructor c ts) raw ≡ false
    → (p : Option (QuotientEntry × List TypeTree)) → entry_of es (type_constructor c ts) ≡ p
    → (q : Quot) × IsQuotBetween G es (type_constructor c ts) raw q
by-entry G es sig o m below c ts r w g raw e x y None z =
    (no_quotient_between (type_constructor c ts) raw, (case-from G es (type_constructor c ts) raw false false None x y z, refl, refl))
by-entry G es sig o m below c ts r w g raw e x y (Some p) z =
    let whole = case-from G es (type_constructor c ts) raw false false (Some p) x y z in
    elim (bool_cases (same_type (raw_at p.0 p.1) raw)) [
      | inl s ↦ (
        registered_quotient p.0 p.1,
        whole ∙ if-true (same_type (raw_at p.0 p.1) raw) (that_quotient p.0 p.1) (another_raw_type p.0 p.1) s,
      )
      | inr s ↦
          let k = entry-parts (quotient_of es c) (listed ts) p z in
          let f = found-in-order sig es c p.0 o k.0 in
          let q : c ≡ constructor_name p.0.abs_type = f.1 ∙ sym f.0.named in
          let row_is : row p.1 ≡ ts = ap row (sym k.1) ∙ row-listed ts in
          let rank_is : rank (type_names_of sig) (constructor_name p.0.abs_type) < suc m =
          subst (λ (d : Chars). rank (type_names_of sig) d < suc m) q r in
          let under = under-ordered (type_names_of sig) (constructor_name p.0.abs_type) m rank_is p.0.raw_type f.0.order in
          let mid = below (type_variables p.0.abs_type) p.1 p.0.raw_type (ap (types_fault sig) row_is ∙ w)
          (subst (AreGood G es sig) (sym row_is) g) f.0.sound under raw e in (
            composed_quotient mid.0 p.0 p.1,
            (whole ∙ if-false (same_type (raw_at p.0 p.1) raw) (that_quotient p.0 p.1) (another_raw_type p.0 p.1) s, mid.1),
          )
    ]

-- by a relator
by-relator : (G : Registry) (es : List QuotientEntry) (sig : Signature) (c : Chars) (ts : TypeTrees)
    → type_fault sig (type_constructor c ts) ≡ None → AreGood G es sig ts → (raw : TypeTree) → type_fault sig raw ≡ None
    → same_type (type_constructor c ts) raw ≡ false → have_one_relator G (type_constructor c ts) raw ≡ true
    → (q : Quot) × IsQuotBetween G es (type_constructor c ts) raw q
by-relator G es sig c ts w g (type_variable a) e x y = absurd (true-false (sym y))
by-relator G es sig c ts w g (type_constructor d us) e x y =
    let n : c ≡ d = name-true c d (and_parts (same_name c d) (is_some (relator_for G c)) y).0 in
    let h = first-none (constructor_fault c (length (listed ts)) (declared_arity sig c)) (types_fault sig ts) w in
    let k = first-none (constructor_fault d (length (listed us)) (declared_arity sig d)) (types_fault sig us) e in
    let l = subst (λ (b : Chars). constructor_fault b (length (listed us)) (declared_arity sig b) ≡ None) (sym n) k.0 in
    let qs = quots-exist G es sig ts us g k.1 (count-is c (length (listed ts)) (length (listed us)) (declared_arity sig c) h.0 l) in (
      relator_quotient c qs.0,
      (case-from G es (type_constructor c ts) (type_constructor d us) false true (entry_of es (type_constructor c ts)) x y refl, refl, qs.1),
    )

constructor-good : (G : Registry) (es : List QuotientEntry) (sig : Signature) → AreInOrder sig es → (m : ℕ) → AreGoodBelow G es sig m
    → (c : Chars) (ts : TypeTrees) → rank (type_names_of sig) c < suc m → type_fault sig (type_constructor c ts) ≡ None → AreGood G es sig ts
    → IsGood G es sig (type_constructor c ts)
constructor-good G es sig o m below c ts r w g raw e = elim (bool_cases (same_type (type_constructor c ts) raw)) [
  | inl s ↦ (
    identity_quotient (type_constructor c ts),
    (
      case-from G es (type_constructor c ts) raw true
          (have_one_relator G (type_constructor c ts) raw) (entry_of es (type_constructor c ts)) s refl refl,
      refl,
    ),
  )
  | inr s ↦ elim (bool_cases (have_one_relator G (type_constructor c ts) raw)) [
    | inl y ↦ by-relator G es sig c ts w g raw e s y
    | inr y ↦ by-entry G es sig o m below c ts r
        (first-none (constructor_fault c (length (listed ts)) (declared_arity sig c)) (types_fault sig ts) w).1 g raw e s y
        (entry_of es (type_constructor c ts)) refl
  ]
]

mutual
  step : (G : Registry) (es : List QuotientEntry) (sig : Signature) → AreInOrder sig es → (m : ℕ) → AreGoodBelow G es sig m
      → (vs : List Chars) (us : List TypeTree) (t : TypeTree) → types_fault sig (row us) ≡ None → AreGood G es sig (row us)
      → type_fault sig t ≡ None → IsUnder (type_names_of sig) (suc m) t → IsGood G es sig (type_instance (zip vs us) t)
  step G es sig o m below vs us (type_variable a) w g f u = value-good G es sig vs us a g
  step G es sig o m below vs us (type_constructor c ts) w g f u =
      constructor-good G es sig o m below c (types_instance (zip vs us) ts) u.0 (instance-sound sig vs us (type_constructor c ts) w f)
      (steps G es sig o m below vs us ts w g
      (first-none (constructor_fault c (length (listed ts)) (declared_arity sig c)) (types_fault sig ts) f).1 u.1)

  steps : (G : Registry) (es : List QuotientEntry) (sig : Signature) → AreInOrder sig es → (m : ℕ) → AreGoodBelow G es sig m
      → (vs : List Chars) (us : List TypeTree) (ts : TypeTrees) → types_fault sig (row us) ≡ None → AreGood G es sig (row us)
      → types_fault sig ts ≡ None → AreUnder (type_names_of sig) (suc m) ts → AreGood G es sig (types_instance (zip vs us) ts)
  steps G es sig o m below vs us no_types w g f u = tt
  steps G es sig o m below vs us (type_and t ts) w g f u =
      let h = first-none (type_fault sig t) (types_fault sig ts) f in
      (step G es sig o m below vs us t w g h.0 u.0, steps G es sig o m below vs us ts w g h.1 u.1)

all-good : (G : Registry) (es : List QuotientEntry) (sig : Signature) → AreInOrder sig es → (n : ℕ) → AreGoodBelow G es sig n
all-good G es sig o zero vs us (type_variable a) w g f u = value-good G es sig vs us a g
all-good G es sig o zero vs us (type_constructor c ts) w g f u = absurd (omega arith)
all-good G es sig o (suc n) vs us t w g f u = step G es sig o n (all-good G es sig o n) vs us t w g f u

-- each constructor has a number that isn't above the length
rank-bound : (xs : List Chars) (c : Chars) → rank xs c < suc (length xs)
rank-bound [] c = omega arith
rank-bound (x ∷ xs) c = elim (bool_cases (same_name x c)) [
  | inl s ↦ let m : rank (x ∷ xs) c ≡ 0 = if-true (same_name x c) 0 (suc (rank xs c)) s in omega arith
  | inr s ↦
      let m : rank (x ∷ xs) c ≡ suc (rank xs c) = if-false (same_name x c) 0 (suc (rank xs c)) s in
      let i = rank-bound xs c in omega arith
]

mutual
  under-bound : (xs : List Chars) (t : TypeTree) → IsUnder xs (suc (length xs)) t
  under-bound xs (type_variable a) = tt
  under-bound xs (type_constructor c ts) = (rank-bound xs c, all-under-bound xs ts)

  all-under-bound : (xs : List Chars) (ts : TypeTrees) → AreUnder xs (suc (length xs)) ts
  all-under-bound xs no_types = tt
  all-under-bound xs (type_and t ts) = (under-bound xs t, all-under-bound xs ts)

mutual
  same-instance : (t : TypeTree) → type_instance [] t ≡ t
  same-instance (type_variable a) = refl
  same-instance (type_constructor c ts) = ap (type_constructor c) (same-instances ts)

  same-instances : (ts : TypeTrees) → types_instance [] ts ≡ ts
  same-instances no_types = refl
  same-instances (type_and t ts) = λ i. type_and (same-instance t i) (same-instances ts i)

pub quotients-exist : QuotientsExist
quotients-exist G es sig abs raw o w e =
    subst (IsGood G es sig) (same-instance abs)
    (all-good G es sig o (suc (length (type_names_of sig))) [] [] abs refl tt w (under-bound (type_names_of sig) abs)) raw e
