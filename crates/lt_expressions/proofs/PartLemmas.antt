-- Where the parts of an expression begin.
use Rattle.std.proofs.Common.{◌≡◌, ◌⊎◌, inl, inr, ℕ, zero, suc, ◌+◌, ◌-◌, ◌<◌, ◌≤◌, List, [], ◌∷◌, ◌++◌, length, take, drop, get_or, refl, sym, ◌∙◌, ap, subst, true, arith, append-nil, length-append}
use Rattle.std.proofs.lemmas.Bool.{cases_lt}
use Rattle.std.proofs.lemmas.List.{length-take-le, get_or_default}
use Rattle.lt_expressions.specs.declared.rel.RelNode.{RelNode}
use Rattle.lt_expressions.specs.declared.rel.RelNode.TheVariants.{Var, Eq, Con}
use Rattle.std.specs.Cmp.Lexicographic.{pointwise}
use Rattle.lt_definitions.specs.Types.{TypeTree, type_variable, same_type}
use Rattle.lt_definitions.proofs.SameNames.{both-true, true-both, true-false, type-true, true-type}
use Rattle.lt_transport_definitions.specs.Relations.{Relation, relation_variable, equality, constructed, relation_row}
use Rattle.lt_expressions.specs.Layout.{arguments, grow, HasRoom, forest, relation_nodes}
use Rattle.lt_expressions.specs.Parts.{BeginsAt}
use Rattle.lt_expressions.proofs.LayoutLemmas.{step, grow-under, IsStep}

snoc-length : {A : Type 0} (xs : List A) (x : A) → length (xs ++ x ∷ []) ≡ suc (length xs)
snoc-length xs x = length-append xs (x ∷ []) ∙ omega arith

pub snoc-inj : {A : Type 0} (xs ys : List A) (x y : A) → xs ++ x ∷ [] ≡ ys ++ y ∷ [] → (xs ≡ ys) × (x ≡ y)
snoc-inj [] [] x y e = (refl, ap (λ l. get_or l 0 x) e)
snoc-inj [] (z ∷ ys) x y e = absurd (omega (arith, ap length e, snoc-length ys y))
snoc-inj (z ∷ xs) [] x y e = absurd (omega (arith, ap length e, snoc-length xs x))
snoc-inj (z ∷ xs) (w ∷ ys) x y e =
    let k = snoc-inj xs ys x y (ap (drop 1) e) in
    let front : z ≡ w = ap (λ l. get_or l 0 z) e in
    ((λ i. front i ∷ k.0 i), k.1)

-- lists of types are compared one by one
pub list-true : (ts us : List TypeTree) → pointwise same_type ts us ≡ true → ts ≡ us
list-true [] [] e = refl
list-true [] (u ∷ us) e = absurd (true-false (sym e))
list-true (t ∷ ts) [] e = absurd (true-false (sym e))
list-true (t ∷ ts) (u ∷ us) e =
    let h = both-true (same_type t u) (pointwise same_type ts us) e in
    let head : t ≡ u = type-true t u h.0 in
    let later : ts ≡ us = list-true ts us h.1 in
    λ i. head i ∷ later i

list-refl : (ts : List TypeTree) → pointwise same_type ts ts ≡ true
list-refl [] = refl
list-refl (t ∷ ts) = true-both (same_type t t) (pointwise same_type ts ts) (true-type t t refl) (list-refl ts)

pub true-list : (ts us : List TypeTree) → ts ≡ us → pointwise same_type ts us ≡ true
true-list ts us e = subst (λ (vs : List TypeTree). pointwise same_type ts vs ≡ true) e (list-refl ts)

-- ---- how many expressions a node makes

pub length-grow : (before : List Relation) (n : RelNode) → HasRoom before n → length (grow before n) + arguments n ≡ suc (length before)
length-grow before (Var m t) r = ap (λ k. k + 0) (snoc-length before (relation_variable m t)) ∙ omega arith
length-grow before (Eq t) r = ap (λ k. k + 0) (snoc-length before (equality t)) ∙ omega arith
length-grow before (Con c ts ids) r =
    let made : Relation = constructed c ts (relation_row (drop (length before - length ids) before)) in
    ap (λ k. k + length ids) (snoc-length (take (length before - length ids) before) made ∙ ap suc (length-take-le (length before - length ids) before (omega arith))) ∙ omega (arith, r)

grow-some : (before : List Relation) (n : RelNode) → 1 ≤ length (grow before n)
grow-some before (Var m t) = omega (arith, snoc-length before (relation_variable m t))
grow-some before (Eq t) = omega (arith, snoc-length before (equality t))
grow-some before (Con c ts ids) = omega (arith, snoc-length (take (length before - length ids) before) (constructed c ts (relation_row (drop (length before - length ids) before))))

forest-room : (rel : Relation) (i : ℕ) (n : RelNode) → i < length (relation_nodes 0 rel) → n ≡ get_or (relation_nodes 0 rel) i n → IsStep (relation_nodes 0 rel) i n
forest-room rel i n lt e = step (relation_nodes 0 rel) rel i n refl lt e

-- the expressions that nodes make are no more than the nodes
pub forest-few : (rel : Relation) (i : ℕ) → i ≤ length (relation_nodes 0 rel) → length (forest [] (take i (relation_nodes 0 rel))) ≤ i
forest-few rel zero h = omega arith
forest-few rel (suc i) h =
    let n : RelNode = get_or (relation_nodes 0 rel) i (Eq (type_variable [])) in
    let s : IsStep (relation_nodes 0 rel) i n = forest-room rel i n (omega arith) (get_or_default (relation_nodes 0 rel) i (Eq (type_variable [])) n (omega arith)) in
    let k : length (forest [] (take (i + 1) (relation_nodes 0 rel))) + arguments n ≡ suc (length (forest [] (take i (relation_nodes 0 rel)))) = ap (λ ts. length ts + arguments n) s.next ∙ length-grow (forest [] (take i (relation_nodes 0 rel))) n s.room in
    let e : suc i ≡ i + 1 = omega arith in
    omega (arith, k, forest-few rel i (omega arith), ap (λ j. length (forest [] (take j (relation_nodes 0 rel)))) e)

-- What is known while the beginning of the last expression is sought: so many expressions are still missing.
pub record IsSought (nodes : List RelNode) (end at missing : ℕ) : Type 0 where
  pub some : 1 ≤ missing
  pub count : length (forest [] (take at nodes)) + 1 ≡ length (forest [] (take end nodes)) + missing
  pub inside : (k : ℕ) → at ≤ k → k ≤ end → length (forest [] (take end nodes)) ≤ length (forest [] (take k nodes))

pub sought-init : (nodes : List RelNode) (end : ℕ) → IsSought nodes end end 1
sought-init nodes end = record {
  some = omega arith;
  count = refl;
  inside = λ k up down. let e : end ≡ k = omega arith in omega (arith, ap (λ j. length (forest [] (take j nodes))) e);
}

-- one node further to the left
sought-count : (rel : Relation) (end at j missing : ℕ) (n : RelNode) → at ≡ j + 1 → j < length (relation_nodes 0 rel) → n ≡ get_or (relation_nodes 0 rel) j n → IsSought (relation_nodes 0 rel) end at missing
    → length (forest [] (take j (relation_nodes 0 rel))) + 1 ≡ length (forest [] (take end (relation_nodes 0 rel))) + ((missing - 1) + arguments n)
sought-count rel end at j missing n e lt is h =
    let s : IsStep (relation_nodes 0 rel) j n = forest-room rel j n lt is in
    let k : length (forest [] (take (j + 1) (relation_nodes 0 rel))) + arguments n ≡ suc (length (forest [] (take j (relation_nodes 0 rel)))) = ap (λ ts. length ts + arguments n) s.next ∙ length-grow (forest [] (take j (relation_nodes 0 rel))) n s.room in
    omega (arith, k, h.count, h.some, ap (λ i. length (forest [] (take i (relation_nodes 0 rel)))) e)

pub sought-next : (rel : Relation) (end at j missing : ℕ) (n : RelNode) → at ≡ j + 1 → j < length (relation_nodes 0 rel) → n ≡ get_or (relation_nodes 0 rel) j n → 1 ≤ (missing - 1) + arguments n
    → IsSought (relation_nodes 0 rel) end at missing → IsSought (relation_nodes 0 rel) end j ((missing - 1) + arguments n)
sought-next rel end at j missing n e lt is more h = record {
  some = more;
  count = sought-count rel end at j missing n e lt is h;
  inside = λ k up down. elim (at-or-above k up) [
    | inl same ↦ omega (arith, sought-count rel end at j missing n e lt is h, more, ap (λ i. length (forest [] (take i (relation_nodes 0 rel)))) same)
    | inr above ↦ h.inside k (omega (arith, above, e)) down
  ];
}
  where
    at-or-above : (k : ℕ) → j ≤ k → (j ≡ k) ⊎ (j < k)
    at-or-above k up = elim (cases_lt j k) [ inl h ↦ inr h | inr h ↦ inl (omega arith) ]

pub sought-found : (rel : Relation) (end at j missing : ℕ) (n : RelNode) → at ≡ j + 1 → at ≤ end → j < length (relation_nodes 0 rel) → n ≡ get_or (relation_nodes 0 rel) j n → (missing - 1) + arguments n ≡ 0
    → IsSought (relation_nodes 0 rel) end at missing → BeginsAt (relation_nodes 0 rel) end j
sought-found rel end at j missing n e up lt is none h = record {
  before = omega (arith, e);
  one = omega (arith, sought-count rel end at j missing n e lt is h, none);
  inside = λ k low high. let b : length (forest [] (take end (relation_nodes 0 rel))) ≤ length (forest [] (take k (relation_nodes 0 rel))) = h.inside k (omega (arith, e)) high in omega (arith, sought-count rel end at j missing n e lt is h, none, b);
}

pub forest-some : (rel : Relation) (end : ℕ) → 0 < end → end ≤ length (relation_nodes 0 rel) → 1 ≤ length (forest [] (take end (relation_nodes 0 rel)))
forest-some rel zero some h = absurd (omega arith)
forest-some rel (suc i) some h =
    let n : RelNode = get_or (relation_nodes 0 rel) i (Eq (type_variable [])) in
    let s : IsStep (relation_nodes 0 rel) i n = forest-room rel i n (omega arith) (get_or_default (relation_nodes 0 rel) i (Eq (type_variable [])) n (omega arith)) in
    let e : suc i ≡ i + 1 = omega arith in
    omega (arith, grow-some (forest [] (take i (relation_nodes 0 rel))) n, ap length s.next, ap (λ j. length (forest [] (take j (relation_nodes 0 rel)))) e)

pub sought-ends : (rel : Relation) (end at missing : ℕ) → at ≤ 0 → 0 < end → end ≤ length (relation_nodes 0 rel) → IsSought (relation_nodes 0 rel) end at missing → ⊥
sought-ends rel end at missing low some h k =
    let e : at ≡ 0 = omega arith in
    absurd (omega (arith, forest-some rel end some h, k.some, k.count, ap (λ j. length (forest [] (take j (relation_nodes 0 rel)))) e))

-- a number of missing expressions is no more than the nodes
pub sought-few : (rel : Relation) (end at j missing : ℕ) (n : RelNode) → at ≡ j + 1 → j < length (relation_nodes 0 rel) → n ≡ get_or (relation_nodes 0 rel) j n → IsSought (relation_nodes 0 rel) end at missing → (missing - 1) + arguments n ≤ j + 1
sought-few rel end at j missing n e lt is h = omega (arith, sought-count rel end at j missing n e lt is h, forest-few rel j (omega arith))

-- a node that makes its expression from the last ones alone
pub room-part : (under before : List Relation) (n : RelNode) → HasRoom (under ++ before) n → length under < length (grow (under ++ before) n) → HasRoom before n
room-part under before (Var m t) r h = tt
room-part under before (Eq t) r h = tt
room-part under before (Con c ts ids) r h = omega (arith, length-grow (under ++ before) (Con c ts ids) r, length-append under before, h)

-- ---- the one expression that lies between a place and the last one's beginning

one-thing : (b : List Relation) → length b ≡ 1 → (e : Relation) × (b ≡ e ∷ [])
one-thing [] h = absurd (omega (arith, h))
one-thing (e ∷ []) h = (e, refl)
one-thing (e ∷ f ∷ b) h = absurd (omega (arith, h))

-- what the nodes behind the beginning make stands behind what there was
begun : (rel : Relation) (end start : ℕ) → end ≤ length (relation_nodes 0 rel) → BeginsAt (relation_nodes 0 rel) end start
    → (k : ℕ) → start + k ≤ end → (b : List Relation) × (forest [] (take (start + k) (relation_nodes 0 rel)) ≡ forest [] (take start (relation_nodes 0 rel)) ++ b)
begun rel end start within h zero up =
    let none : start + 0 ≡ start = omega arith in
    ([], ap (λ i. forest [] (take i (relation_nodes 0 rel))) none ∙ sym (append-nil (forest [] (take start (relation_nodes 0 rel)))))
begun rel end start within h (suc k) up =
    let nodes : List RelNode = relation_nodes 0 rel in
    let front : List Relation = forest [] (take start nodes) in
    let lt : start + k < length nodes = omega (arith, up, within) in
    let n : RelNode = get_or nodes (start + k) (Eq (type_variable [])) in
    let s : IsStep nodes (start + k) n = forest-room rel (start + k) n lt (get_or_default nodes (start + k) (Eq (type_variable [])) n lt) in
    let more : (start + k) + 1 ≡ start + suc k = omega arith in
    let earlier = begun rel end start within h k (omega (arith, up)) in
    let next : forest [] (take (start + suc k) nodes) ≡ grow (front ++ earlier.0) n =
    ap (λ i. forest [] (take i nodes)) (sym more) ∙ s.next ∙ ap (λ (b : List Relation). grow b n) earlier.1 in
    let room : HasRoom earlier.0 n =
    room-part front earlier.0 n (subst (λ (b : List Relation). HasRoom b n) earlier.1 s.room)
    (omega (arith, h.inside (start + suc k) (omega arith) up, ap length next)) in
    (grow earlier.0 n, next ∙ grow-under front earlier.0 n room)

pub begins-one : (rel : Relation) (end start : ℕ) → end ≤ length (relation_nodes 0 rel) → BeginsAt (relation_nodes 0 rel) end start
    → (e : Relation) × (forest [] (take end (relation_nodes 0 rel)) ≡ forest [] (take start (relation_nodes 0 rel)) ++ e ∷ [])
begins-one rel end start within h =
    let whole : start + (end - start) ≡ end = omega (arith, h.before) in
    let last = begun rel end start within h (end - start) (omega (arith, whole)) in
    let split : forest [] (take end (relation_nodes 0 rel)) ≡ forest [] (take start (relation_nodes 0 rel)) ++ last.0 = ap (λ i. forest [] (take i (relation_nodes 0 rel))) (sym whole) ∙ last.1 in
    let one = one-thing last.0 (omega (arith, h.one, ap length split, length-append (forest [] (take start (relation_nodes 0 rel))) last.0)) in
    (one.0, split ∙ ap (λ b. forest [] (take start (relation_nodes 0 rel)) ++ b) one.1)
