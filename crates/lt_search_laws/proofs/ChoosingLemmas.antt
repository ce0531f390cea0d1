-- What a choice list chooses, and what one number more does.
use Rattle.std.specs.Prelude.{take, drop}
use Rattle.std.proofs.Common.{◌≡◌, ℕ, zero, suc, ◌+◌, ◌-◌, ◌<◌, ◌≤◌, List, [], ◌∷◌, ◌++◌, length, Option, Some, None, slice_get, true, refl, subst, sym, ap, ◌∙◌, inl, inr, ◌⊎◌, arith, append_assoc, append-nil, IsSome}
use Rattle.std.proofs.lemmas.List.{length-append, length-drop, take-append-le, drop-append-le}
use Rattle.std.proofs.Math.ListN.{drop_of_length-le}
use Rattle.std.proofs.lemmas.Option.{slice_get_past, slice_get_within}
use Rattle.lt_definitions.specs.Types.{Chars, TypeTree}
use Rattle.lt_definitions.specs.Terms.{TermTree, free_variable, bound_name, constant, application, abstraction, is_closed}
use Rattle.lt_definitions.proofs.SameNames.{both-true}
use Rattle.lt_definitions.specs.Typing.{Signature}
use Rattle.lt_transport_definitions.specs.Relations.{Relation, Registry}
use Rattle.lt_transport_definitions.specs.RuleForm.{TransferRule}
use Rattle.lt_transport_definitions.specs.Candidates.{occurrences, candidates, IsChoice}
use Rattle.lt_transport_definitions.specs.Correspondence.{ChosenStatement, chosen_rule, statement_of, numbers_of, AreCandidates, chosen_application, chosen_abstraction}
use Rattle.lt_transport_definitions.specs.Search.{Question, AreFilled, AreChoices}
use Rattle.lt_search_laws.specs.Equations.{size, rule_slots, choices_at}
use Rattle.lt_search_laws.specs.Slots.{numbered_variable}
use Rattle.lt_search_laws.specs.Choosing.{candidate_at, choose, number_behind, places, candidate_equation, ChoicesGrow}

candidate-is : (o : Option TransferRule) (c : Chars) (ts : List TypeTree) (i : ℕ) → statement_of (candidate_at o c ts i) ≡ constant c ts
candidate-is None c ts i = refl
candidate-is (Some rule) c ts i = refl

pub choose-is : (rules : List TransferRule) (t : TermTree) (p : List ℕ) → is_closed t ≡ true → statement_of (choose rules t p) ≡ t
choose-is rules (free_variable x t) p h = absurd (cc (h))
choose-is rules (bound_name x) p h = refl
choose-is rules (constant c ts) [] h = refl
choose-is rules (constant c ts) (i ∷ p) h = candidate-is (slice_get (candidates rules c ts) i) c ts i
choose-is rules (application f a) p h =
    let both = both-true (is_closed f) (is_closed a) h in
    let x = choose-is rules f (drop (length (occurrences a)) p) both.0 in
    let y = choose-is rules a (take (length (occurrences a)) p) both.1 in (λ i. application (x i) (y i))
choose-is rules (abstraction x t b) p h = ap (abstraction x t) (choose-is rules b p h)

pub choose-size : (rules : List TransferRule) (t : TermTree) (p : List ℕ) → size (statement_of (choose rules t p)) ≡ size t
choose-size rules (free_variable x t) p = refl
choose-size rules (bound_name x) p = refl
choose-size rules (constant c ts) [] = refl
choose-size rules (constant c ts) (i ∷ p) = ap size (candidate-is (slice_get (candidates rules c ts) i) c ts i)
choose-size rules (application f a) p =
    let x = choose-size rules f (drop (length (occurrences a)) p) in
    let y = choose-size rules a (take (length (occurrences a)) p) in (λ i. suc (x i + y i))
choose-size rules (abstraction x t b) p = ap suc (choose-size rules b p)

-- The numbers name candidates of the first occurrences, and those past the last are no matter.
abbrev pub Names : List TransferRule → List (Chars × List TypeTree) → List ℕ → Type 0
Names rules os [] = Unit {0}
Names rules [] (i ∷ p) = Unit {0}
Names rules (o ∷ os) (i ∷ p) = IsChoice rules o.0 o.1 i × Names rules os p

pub choices-name : (q : Question) (os : List (Chars × List TypeTree)) (p : List ℕ) → AreChoices q os p → Names q.rules os p
choices-name q os [] h = tt
choices-name q [] (i ∷ p) h = tt
choices-name q (o ∷ os) (i ∷ p) h = (h.0, choices-name q os p h.1)

names-front : (rules : List TransferRule) (xs ys : List (Chars × List TypeTree)) (p : List ℕ) → Names rules (xs ++ ys) p → Names rules xs (take (length xs) p)
names-front rules [] ys p h = tt
names-front rules (x ∷ xs) ys [] h = tt
names-front rules (x ∷ xs) ys (i ∷ p) h = (h.0, names-front rules xs ys p h.1)

names-behind : (rules : List TransferRule) (xs ys : List (Chars × List TypeTree)) (p : List ℕ) → Names rules (xs ++ ys) p → Names rules ys (drop (length xs) p)
names-behind rules [] ys p h = h
names-behind rules (x ∷ xs) ys [] h = tt
names-behind rules (x ∷ xs) ys (i ∷ p) h = names-behind rules xs ys p h.1

candidate-named : (rules : List TransferRule) (c : Chars) (ts : List TypeTree) (i : ℕ) (o : Option TransferRule) → slice_get (candidates rules c ts) i ≡ o → IsChoice rules c ts i
    → AreCandidates rules (candidate_at o c ts i) × (numbers_of (candidate_at o c ts i) ≡ Some i ∷ [])
candidate-named rules c ts i None e h = elim h [
  | inl k ↦ (k.0, ap (λ (n : ℕ). Some n ∷ []) (sym k.1))
  | inr k ↦ (let n = subst (λ (o : Option TransferRule). IsSome o) e k in absurd (cc (n)))
]
candidate-named rules c ts i (Some rule) e h = (e, refl)

pub choose-candidates : (rules : List TransferRule) (t : TermTree) (p : List ℕ) → Names rules (occurrences t) p → AreCandidates rules (choose rules t p)
choose-candidates rules (free_variable x t) p h = tt
choose-candidates rules (bound_name x) p h = tt
choose-candidates rules (constant c ts) [] h = tt
choose-candidates rules (constant c ts) (i ∷ p) h = (candidate-named rules c ts i (slice_get (candidates rules c ts) i) refl h.0).0
choose-candidates rules (application f a) p h = (
  choose-candidates rules f (drop (length (occurrences a)) p) (names-behind rules (occurrences a) (occurrences f) p h),
  choose-candidates rules a (take (length (occurrences a)) p) (names-front rules (occurrences a) (occurrences f) p h),
)
choose-candidates rules (abstraction x t b) p h = choose-candidates rules b p h

-- so many places, filled with the numbers as far as they go
abbrev fill : ℕ → List ℕ → List (Option ℕ)
fill zero p = []
fill (suc n) [] = None ∷ fill n []
fill (suc n) (i ∷ p) = Some i ∷ fill n p

taken-none : (n : ℕ) (p : List ℕ) → p ≡ [] → take n p ≡ []
taken-none zero p e = refl
taken-none (suc n) [] e = refl
taken-none (suc n) (x ∷ p) e = absurd (cc (e))

dropped-none : (n : ℕ) (p : List ℕ) → p ≡ [] → drop n p ≡ []
dropped-none zero p e = e
dropped-none (suc n) [] e = refl
dropped-none (suc n) (x ∷ p) e = absurd (cc (e))

fill-append : (k n m : ℕ) (p : List ℕ) → k ≡ n + m → fill k p ≡ fill n (take n p) ++ fill m (drop n p)
fill-append k zero m p e = let q : k ≡ m = omega arith in ap (λ z. fill z p) q
fill-append zero (suc n) m p e = absurd (omega arith)
fill-append (suc k) (suc n) m [] e =
    ap (λ r. None ∷ r) (fill-append k n m [] (omega arith) ∙ (λ i. fill n (taken-none n [] refl i) ++ fill m (dropped-none n [] refl i)))
fill-append (suc k) (suc n) m (i ∷ p) e = ap (λ r. Some i ∷ r) (fill-append k n m p (omega arith))

choose-numbers : (rules : List TransferRule) (t : TermTree) (p : List ℕ) → Names rules (occurrences t) p → numbers_of (choose rules t p) ≡ fill (length (occurrences t)) p
choose-numbers rules (free_variable x t) p h = refl
choose-numbers rules (bound_name x) p h = refl
choose-numbers rules (constant c ts) [] h = refl
choose-numbers rules (constant c ts) (i ∷ p) h = (candidate-named rules c ts i (slice_get (candidates rules c ts) i) refl h.0).1
choose-numbers rules (application f a) p h =
    let n = length (occurrences a) in
    let x = choose-numbers rules f (drop n p) (names-behind rules (occurrences a) (occurrences f) p h) in
    let y = choose-numbers rules a (take n p) (names-front rules (occurrences a) (occurrences f) p h) in
    (λ i. y i ++ x i) ∙ sym (fill-append (length (occurrences (application f a))) n (length (occurrences f)) p (length-append (occurrences a) (occurrences f)))
choose-numbers rules (abstraction x t b) p h = choose-numbers rules b p h

filled-so : (q : Question) (os : List (Chars × List TypeTree)) (p : List ℕ) → AreChoices q os p → AreFilled (fill (length os) p ++ number_behind (length os) p ∷ []) p
filled-so q [] [] h = tt
filled-so q [] (i ∷ p) h = (refl, subst (λ z. AreFilled [] z) (sym h.1) tt)
filled-so q (o ∷ os) [] h = filled-so q os [] tt
filled-so q (o ∷ os) (i ∷ p) h = (refl, filled-so q os p h.1)

pub choose-filled : (q : Question) (p : List ℕ) → AreChoices q (occurrences q.statement) p
    → AreFilled (numbers_of (choose q.rules q.statement p) ++ number_behind (length (occurrences q.statement)) p ∷ []) p
choose-filled q p h = subst (λ ns. AreFilled (ns ++ number_behind (length (occurrences q.statement)) p ∷ []) p)
    (sym (choose-numbers q.rules q.statement p (choices-name q (occurrences q.statement) p h))) (filled-so q (occurrences q.statement) p h)

-- with no number nothing is chosen
none-chosen : (G : Registry) (sig : Signature) (rules : List TransferRule) (t : TermTree) (k m : ℕ) (p : List ℕ) → p ≡ [] → choices_at G sig numbered_variable k m (choose rules t p) ≡ []
none-chosen G sig rules (free_variable x t) k m p e = refl
none-chosen G sig rules (bound_name x) k m p e = refl
none-chosen G sig rules (constant c ts) k m p e = ap (λ z. choices_at G sig numbered_variable k m (choose rules (constant c ts) z)) e
none-chosen G sig rules (application f a) k m p e =
    let n = length (occurrences a) in
    let K = choose rules f (drop n p) in
    let L = choose rules a (take n p) in
    let x = none-chosen G sig rules f k (m + rule_slots L) (drop n p) (dropped-none n p e) in
    let y = none-chosen G sig rules a (k + size (statement_of K)) m (take n p) (taken-none n p e) in
    (λ i. y i ++ x i)
none-chosen G sig rules (abstraction x t b) k m p e = none-chosen G sig rules b k m p e

none-slots : (rules : List TransferRule) (t : TermTree) (p : List ℕ) → p ≡ [] → rule_slots (choose rules t p) ≡ 0
none-slots rules (free_variable x t) p e = refl
none-slots rules (bound_name x) p e = refl
none-slots rules (constant c ts) p e = ap (λ z. rule_slots (choose rules (constant c ts) z)) e
none-slots rules (application f a) p e =
    let n = length (occurrences a) in
    let x = none-slots rules f (drop n p) (dropped-none n p e) in
    let y = none-slots rules a (take n p) (taken-none n p e) in
    (λ i. y i + x i)
none-slots rules (abstraction x t b) p e = none-slots rules b p e

get-left : {A : Type 0} (xs ys : List A) (i : ℕ) → i < length xs → slice_get (xs ++ ys) i ≡ slice_get xs i
get-left [] ys i l = absurd (omega arith)
get-left (x ∷ xs) ys zero l = refl
get-left (x ∷ xs) ys (suc i) l = get-left xs ys i (omega arith)

get-right : {A : Type 0} (xs ys : List A) (i j : ℕ) → i ≡ length xs + j → slice_get (xs ++ ys) i ≡ slice_get ys j
get-right [] ys i j e = let q : i ≡ j = omega arith in ap (λ z. slice_get ys z) q
get-right (x ∷ xs) ys zero j e = absurd (omega arith)
get-right (x ∷ xs) ys (suc i) j e = get-right xs ys i j (omega arith)

places-length : (k : ℕ) (t : TermTree) → length (places k t) ≡ length (occurrences t)
places-length k (free_variable x t) = refl
places-length k (bound_name x) = refl
places-length k (constant c ts) = refl
places-length k (application f a) =
    let x = places-length k f in
    let y = places-length (k + size f) a in
    length-append (places (k + size f) a) (places k f) ∙ (λ i. y i + x i) ∙ sym (length-append (occurrences a) (occurrences f))
places-length k (abstraction x t b) = places-length k b

all-taken : {A : Type 0} (n : ℕ) (p : List A) → length p ≤ n → take n p ≡ p
all-taken zero [] l = refl
all-taken zero (x ∷ p) l = absurd (omega arith)
all-taken (suc n) [] l = refl
all-taken (suc n) (x ∷ p) l = ap (λ r. x ∷ r) (all-taken n p (omega arith))

candidate-grown : (G : Registry) (sig : Signature) (o : Option TransferRule) (k m : ℕ) (c : Chars) (ts : List TypeTree) (i : ℕ)
    → choices_at G sig numbered_variable k m (candidate_at o c ts i) ≡ candidate_equation G sig k m o c ts ∷ []
candidate-grown G sig None k m c ts i = refl
candidate-grown G sig (Some rule) k m c ts i = refl

-- What choices_at tells of a statement, without the arguments that stay.
module _ (G : Registry) (sig : Signature) (rules : List TransferRule) where
  abbrev told : ℕ → ℕ → ChosenStatement → List (Relation × Relation)
  told k m K = choices_at G sig numbered_variable k m K

  abbrev added : ℕ → ℕ → ℕ → Chars → List TypeTree → List (Relation × Relation)
  added n m i c ts = candidate_equation G sig n m (slice_get (candidates rules c ts) i) c ts ∷ []

  abbrev Grows : TermTree → ℕ → ℕ → List ℕ → ℕ → ℕ → Chars → List TypeTree → Type 0
  Grows t k m p i n c ts = told k m (choose rules t (p ++ i ∷ [])) ≡ told k m (choose rules t p) ++ added n (m + rule_slots (choose rules t p)) i c ts

  in-argument : (f a : TermTree) (k m : ℕ) (p : List ℕ) (i n : ℕ) (c : Chars) (ts : List TypeTree) → length p < length (occurrences a)
      → Grows a (k + size f) m p i n c ts → Grows (application f a) k m p i n c ts
  in-argument f a k m p i n c ts l ih =
      let A = length (occurrences a) in
      let longer = p ++ i ∷ [] in
      let len = length-append p (i ∷ []) in
      let t1 : take A longer ≡ longer = all-taken A longer (omega arith) in
      let t0 : take A p ≡ p = all-taken A p (omega arith) in
      let d1 : drop A longer ≡ [] = drop_of_length-le longer (omega arith) in
      let d0 : drop A p ≡ [] = drop_of_length-le p (omega arith) in
      let X = told (k + size f) m (choose rules a p) in
      let e = added n (m + rule_slots (choose rules a p)) i c ts in
      let s1 = choose-size rules f (drop A longer) in
      let s0 = choose-size rules f (drop A p) in
      let L1 = choose rules a (take A longer) in
      let L0 = choose rules a (take A p) in
      let p1 : told (k + size (statement_of (choose rules f (drop A longer)))) m L1 ≡ told (k + size f) m (choose rules a longer) = (λ j. told (k + s1 j) m (choose rules a (t1 j))) in
      let p2 = none-chosen G sig rules f k (m + rule_slots L1) (drop A longer) d1 in
      let q1 : told (k + size (statement_of (choose rules f (drop A p)))) m L0 ≡ X = (λ j. told (k + s0 j) m (choose rules a (t0 j))) in
      let q2 = none-chosen G sig rules f k (m + rule_slots L0) (drop A p) d0 in
      let z = none-slots rules f (drop A p) d0 in
      let y : rule_slots L0 ≡ rule_slots (choose rules a p) = ap (λ u. rule_slots (choose rules a u)) t0 in
      let q3 : m + (rule_slots L0 + rule_slots (choose rules f (drop A p))) ≡ m + rule_slots (choose rules a p) = omega arith in
      let p3 : told (k + size (statement_of (choose rules f (drop A longer)))) m L1 ≡ X ++ e = p1 ∙ ih in
      let left : told k m (choose rules (application f a) longer) ≡ (X ++ e) ++ [] = (λ j. p3 j ++ p2 j) in
      let right : told k m (choose rules (application f a) p) ++ added n (m + rule_slots (choose rules (application f a) p)) i c ts ≡ (X ++ []) ++ e = (λ j. (q1 j ++ q2 j) ++ added n (q3 j) i c ts) in
      left ∙ append-nil (X ++ e) ∙ sym (right ∙ ap (λ u. u ++ e) (append-nil X))

  in-head : (f a : TermTree) (k m : ℕ) (p : List ℕ) (i n : ℕ) (c : Chars) (ts : List TypeTree) → length (occurrences a) ≤ length p
      → Grows f k (m + rule_slots (choose rules a (take (length (occurrences a)) p))) (drop (length (occurrences a)) p) i n c ts → Grows (application f a) k m p i n c ts
  in-head f a k m p i n c ts l ih =
      let A = length (occurrences a) in
      let longer = p ++ i ∷ [] in
      let t1 : take A longer ≡ take A p = take-append-le A p (i ∷ []) l in
      let d1 : drop A longer ≡ drop A p ++ i ∷ [] = drop-append-le A p (i ∷ []) l in
      let K0 = choose rules f (drop A p) in
      let L0 = choose rules a (take A p) in
      let X = told (k + size (statement_of K0)) m L0 in
      let Y = told k (m + rule_slots L0) K0 in
      let s : size (statement_of (choose rules f (drop A longer))) ≡ size (statement_of K0) = choose-size rules f (drop A longer) ∙ sym (choose-size rules f (drop A p)) in
      let p1 : told (k + size (statement_of (choose rules f (drop A longer)))) m (choose rules a (take A longer)) ≡ X = (λ j. told (k + s j) m (choose rules a (t1 j))) in
      let p2 : told k (m + rule_slots (choose rules a (take A longer))) (choose rules f (drop A longer)) ≡ told k (m + rule_slots L0) (choose rules f (drop A p ++ i ∷ [])) =
      (λ j. told k (m + rule_slots (choose rules a (t1 j))) (choose rules f (d1 j))) in
      let e = added n (m + rule_slots L0 + rule_slots K0) i c ts in
      let p3 : told k (m + rule_slots (choose rules a (take A longer))) (choose rules f (drop A longer)) ≡ Y ++ e = p2 ∙ ih in
      let o : m + rule_slots L0 + rule_slots K0 ≡ m + (rule_slots L0 + rule_slots K0) = omega arith in
      let left : told k m (choose rules (application f a) longer) ≡ X ++ (Y ++ e) = (λ j. p1 j ++ p3 j) in
      left ∙ sym (append_assoc X Y e) ∙ (λ j. (X ++ Y) ++ added n (o j) i c ts)

  split : (x y : ℕ) → (x < y) ⊎ (y ≤ x)
  split x zero = inr (omega arith)
  split zero (suc y) = inl (omega arith)
  split (suc x) (suc y) = elim (split x y) [ inl l ↦ inl (omega arith) | inr l ↦ inr (omega arith) ]

  pub choose-grown : (t : TermTree) (k m : ℕ) (p : List ℕ) (i n : ℕ) (c : Chars) (ts : List TypeTree)
      → slice_get (places k t) (length p) ≡ Some n → slice_get (occurrences t) (length p) ≡ Some (c, ts) → Grows t k m p i n c ts
  choose-grown (free_variable x t) k m p i n c ts h g = let l = slice_get_within [] (length p) n h in absurd (omega arith)
  choose-grown (bound_name x) k m p i n c ts h g = let l = slice_get_within [] (length p) n h in absurd (omega arith)
  choose-grown (constant d us) k m [] i n c ts h g =
      let a : k ≡ n = cc (h) in
      let b : ◌≡◌ {A = Chars × List TypeTree} (d, us) (c, ts) = cc (g) in
      let o : m ≡ m + 0 = omega arith in
      candidate-grown G sig (slice_get (candidates rules d us) i) k m d us i
      ∙ (λ j. candidate_equation G sig (a j) (o j) (slice_get (candidates rules (b j).0 (b j).1) i) (b j).0 (b j).1 ∷ [])
  choose-grown (constant d us) k m (x ∷ p) i n c ts h g = let l = slice_get_within (k ∷ []) (length (x ∷ p)) n h in absurd (omega arith)
  choose-grown (application f a) k m p i n c ts h g =
      let A = length (occurrences a) in
      let pa = places-length (k + size f) a in
      let ld = length-drop A p in
      elim (split (length p) A) [
        | inl l ↦ in-argument f a k m p i n c ts l (choose-grown a (k + size f) m p i n c ts
            (sym (get-left (places (k + size f) a) (places k f) (length p) (omega arith)) ∙ h) (sym (get-left (occurrences a) (occurrences f) (length p) l) ∙ g))
        | inr l ↦ in-head f a k m p i n c ts l (choose-grown f k (m + rule_slots (choose rules a (take A p))) (drop A p) i n c ts
            (sym (get-right (places (k + size f) a) (places k f) (length p) (length (drop A p)) (omega arith)) ∙ h)
            (sym (get-right (occurrences a) (occurrences f) (length p) (length (drop A p)) (omega arith)) ∙ g))
      ]
  choose-grown (abstraction x t b) k m p i n c ts h g = choose-grown b k m p i n c ts h g

pub choose-past : (rules : List TransferRule) (t : TermTree) (p : List ℕ) (i : ℕ) → length (occurrences t) ≤ length p → choose rules t (p ++ i ∷ []) ≡ choose rules t p
choose-past rules (free_variable x t) p i l = refl
choose-past rules (bound_name x) p i l = refl
choose-past rules (constant c ts) [] i l = absurd (omega arith)
choose-past rules (constant c ts) (x ∷ p) i l = refl
choose-past rules (application f a) p i l =
    let A = length (occurrences a) in
    let o = length-append (occurrences a) (occurrences f) in
    let d = length-drop A p in
    let t1 : take A (p ++ i ∷ []) ≡ take A p = take-append-le A p (i ∷ []) (omega arith) in
    let d1 : drop A (p ++ i ∷ []) ≡ drop A p ++ i ∷ [] = drop-append-le A p (i ∷ []) (omega arith) in
    let x : choose rules f (drop A (p ++ i ∷ [])) ≡ choose rules f (drop A p) = ap (choose rules f) d1 ∙ choose-past rules f (drop A p) i (omega arith) in
    (λ j. chosen_application (x j) (choose rules a (t1 j)))
choose-past rules (abstraction x t b) p i l = ap (chosen_abstraction x t) (choose-past rules b p i l)

pub choices-grow : ChoicesGrow
choices-grow = record {
  of_statement = choose-is;
  by_candidates = λ q p h. choose-candidates q.rules q.statement p (choices-name q (occurrences q.statement) p h);
  filled = choose-filled;
  grown = choose-grown;
  past = choose-past;
}
