-- Walks that look at each node once.
use Rattle.std.proofs.Common.{◌≡◌, ◌⊎◌, inl, inr, ℕ, zero, suc, ◌+◌, ◌<◌, ◌≤◌, ◌==◌, List, [], ◌∷◌, ◌++◌, length, slice_get, Bool, true, false, if◌then◌else◌, ◌||◌, nat_lt, Some, refl, sym, ◌∙◌, ap, subst, arith, length-append, append-nil, append_assoc}
use Rattle.std.specs.List.{IsDistinct}
use Rattle.std.proofs.lemmas.Bool.{cases_Bool, cond-true, cond-false, eqb-true, eq-eqb}
use Rattle.std.proofs.lemmas.Bool.Decides.{nat_tests}
use Rattle.std.proofs.lemmas.Map.Steps.{length-le_from_distinct_below}
use Rattle.lt_definitions.specs.Types.{Chars, same_name, has_name, names_joined, TypeTree}
use Rattle.lt_definitions.proofs.SameNames.{true-false, name-true, true-name}
use Rattle.lt_nameless.specs.Nameless.{Nameless, nameless_free, nameless_bound, nameless_loose, nameless_constant, nameless_application, nameless_abstraction}
use Rattle.lt_store.specs.declared.node.Node.{Node}
use Rattle.lt_store.specs.declared.node.Node.TheVariants.{Free, Bound, Const, App, Lam}
use Rattle.lt_store.specs.Trees.{tree_at, node_tree, IsBelow}
use Rattle.lt_derived.specs.NodeTypes.{child_ids}
use Rattle.lt_conv.specs.Everywhere.{free_names}
use Rattle.lt_conv.specs.Walks.{has_id, with_id, with_ids, own_names, AreNamesOf}

-- ---- tests on lists

or-left : (a b : Bool) → a ≡ true → (a || b) ≡ true
or-left a b e = ap (λ (c : Bool). c || b) e

or-right : (a b : Bool) → b ≡ true → (a || b) ≡ true
or-right true b e = refl
or-right false b e = e

or-either : (a b : Bool) → (a || b) ≡ true → (a ≡ true) ⊎ (b ≡ true)
or-either true b e = inl refl
or-either false b e = inr e

same-id : (a b : ℕ) → (a == b) ≡ true → a ≡ b
same-id a b e = eqb-true a b e

id-same : (a : ℕ) → (a == a) ≡ true
id-same a = eq-eqb a a refl

has-front : (q : ℕ) (xs ys : List ℕ) → has_id q xs ≡ true → has_id q (xs ++ ys) ≡ true
has-front q [] ys e = absurd (true-false (sym e))
has-front q (x ∷ xs) ys e = elim (or-either (q == x) (has_id q xs) e) [
  | inl h ↦ or-left (q == x) (has_id q (xs ++ ys)) h
  | inr h ↦ or-right (q == x) (has_id q (xs ++ ys)) (has-front q xs ys h)
]

has-end : (q : ℕ) (xs ys : List ℕ) → has_id q ys ≡ true → has_id q (xs ++ ys) ≡ true
has-end q [] ys e = e
has-end q (x ∷ xs) ys e = or-right (q == x) (has_id q (xs ++ ys)) (has-end q xs ys e)

has-either : (q : ℕ) (xs ys : List ℕ) → has_id q (xs ++ ys) ≡ true → (has_id q xs ≡ true) ⊎ (has_id q ys ≡ true)
has-either q [] ys e = inr e
has-either q (x ∷ xs) ys e = elim (or-either (q == x) (has_id q (xs ++ ys)) e) [
  | inl h ↦ inl (or-left (q == x) (has_id q xs) h)
  | inr h ↦ elim (has-either q xs ys h) [
    | inl k ↦ inl (or-right (q == x) (has_id q xs) k)
    | inr k ↦ inr k
  ]
]

has-one : (q c : ℕ) → has_id q (c ∷ []) ≡ true → q ≡ c
has-one q c e = elim (or-either (q == c) false e) [
  | inl h ↦ same-id q c h
  | inr h ↦ absurd (true-false (sym h))
]

-- ---- ids with one more

-- those that were there stand in front
with_id-front : (ids : List ℕ) (c : ℕ) → (more : List ℕ) × (with_id ids c ≡ ids ++ more)
with_id-front ids c = elim (cases_Bool (has_id c ids)) [
  | inl h ↦ ([], cond-true (has_id c ids) ids (ids ++ c ∷ []) h ∙ sym (append-nil ids))
  | inr h ↦ (c ∷ [], cond-false (has_id c ids) ids (ids ++ c ∷ []) h)
]

with_id-kept : (ids : List ℕ) (c q : ℕ) → has_id q ids ≡ true → has_id q (with_id ids c) ≡ true
with_id-kept ids c q h = let f = with_id-front ids c in ap (has_id q) f.1 ∙ has-front q ids f.0 h

with_id-added : (ids : List ℕ) (c : ℕ) → has_id c (with_id ids c) ≡ true
with_id-added ids c = elim (cases_Bool (has_id c ids)) [
  | inl h ↦ ap (has_id c) (cond-true (has_id c ids) ids (ids ++ c ∷ []) h) ∙ h
  | inr h ↦ ap (has_id c) (cond-false (has_id c ids) ids (ids ++ c ∷ []) h) ∙ has-end c ids (c ∷ []) (or-left (c == c) false (id-same c))
]

with_id-either : (ids : List ℕ) (c q : ℕ) → has_id q (with_id ids c) ≡ true → (has_id q ids ≡ true) ⊎ (q ≡ c)
with_id-either ids c q e = elim (cases_Bool (has_id c ids)) [
  | inl h ↦ inl (sym (ap (has_id q) (cond-true (has_id c ids) ids (ids ++ c ∷ []) h)) ∙ e)
  | inr h ↦ elim (has-either q ids (c ∷ []) (sym (ap (has_id q) (cond-false (has_id c ids) ids (ids ++ c ∷ []) h)) ∙ e)) [
    | inl k ↦ inl k
    | inr k ↦ inr (has-one q c k)
  ]
]

front-get : (xs ys : List ℕ) (k x : ℕ) → slice_get xs k ≡ Some x → slice_get (xs ++ ys) k ≡ Some x
front-get [] ys k x e = absurd (cc e)
front-get (y ∷ xs) ys zero x e = e
front-get (y ∷ xs) ys (suc k) x e = front-get xs ys k x e

front-same : (xs ys : List ℕ) (k : ℕ) → k < length xs → slice_get (xs ++ ys) k ≡ slice_get xs k
front-same [] ys k h = absurd (omega arith)
front-same (x ∷ xs) ys zero h = refl
front-same (x ∷ xs) ys (suc k) h = front-same xs ys k (omega arith)

-- ---- ids with several more

with_ids-front : (ids cs : List ℕ) → (more : List ℕ) × (with_ids ids cs ≡ ids ++ more)
with_ids-front ids [] = ([], sym (append-nil ids))
with_ids-front ids (c ∷ cs) =
    let one = with_id-front ids c in
    let others = with_ids-front (with_id ids c) cs in
    (one.0 ++ others.0, others.1 ∙ ap (λ xs. xs ++ others.0) one.1 ∙ append_assoc ids one.0 others.0)

pub with_ids-kept : (ids cs : List ℕ) (q : ℕ) → has_id q ids ≡ true → has_id q (with_ids ids cs) ≡ true
with_ids-kept ids cs q h = let f = with_ids-front ids cs in ap (has_id q) f.1 ∙ has-front q ids f.0 h

-- each of these is among those
abbrev pub AllAmong : List ℕ → List ℕ → Type 0
AllAmong ids [] = Unit {0}
AllAmong ids (c ∷ cs) = (has_id c ids ≡ true) × AllAmong ids cs

among-kept : (ids more cs : List ℕ) → AllAmong ids cs → AllAmong (with_ids ids more) cs
among-kept ids more [] h = tt
among-kept ids more (c ∷ cs) h = (with_ids-kept ids more c h.0, among-kept ids more cs h.1)

with_ids-added : (ids cs : List ℕ) → AllAmong (with_ids ids cs) cs
with_ids-added ids [] = tt
with_ids-added ids (c ∷ cs) = (with_ids-kept (with_id ids c) cs c (with_id-added ids c), with_ids-added (with_id ids c) cs)

with_ids-either : (ids cs : List ℕ) (q : ℕ) → has_id q (with_ids ids cs) ≡ true → (has_id q ids ≡ true) ⊎ (has_id q cs ≡ true)
with_ids-either ids [] q e = inl e
with_ids-either ids (c ∷ cs) q e = elim (with_ids-either (with_id ids c) cs q e) [
  | inl h ↦ elim (with_id-either ids c q h) [
    | inl k ↦ inl k
    | inr k ↦ inr (or-left (q == c) (has_id q cs) (ap (λ (i : ℕ). i == c) k ∙ id-same c))
  ]
  | inr h ↦ inr (or-right (q == c) (has_id q cs) h)
]

-- ---- names with one more

name-front : (x : Chars) (xs ys : List Chars) → has_name x xs ≡ true → has_name x (xs ++ ys) ≡ true
name-front x [] ys e = absurd (true-false (sym e))
name-front x (y ∷ xs) ys e = elim (or-either (same_name x y) (has_name x xs) e) [
  | inl h ↦ or-left (same_name x y) (has_name x (xs ++ ys)) h
  | inr h ↦ or-right (same_name x y) (has_name x (xs ++ ys)) (name-front x xs ys h)
]

name-end : (x : Chars) (xs ys : List Chars) → has_name x ys ≡ true → has_name x (xs ++ ys) ≡ true
name-end x [] ys e = e
name-end x (y ∷ xs) ys e = or-right (same_name x y) (has_name x (xs ++ ys)) (name-end x xs ys e)

name-either : (x : Chars) (xs ys : List Chars) → has_name x (xs ++ ys) ≡ true → (has_name x xs ≡ true) ⊎ (has_name x ys ≡ true)
name-either x [] ys e = inr e
name-either x (y ∷ xs) ys e = elim (or-either (same_name x y) (has_name x (xs ++ ys)) e) [
  | inl h ↦ inl (or-left (same_name x y) (has_name x xs) h)
  | inr h ↦ elim (name-either x xs ys h) [
    | inl k ↦ inl (or-right (same_name x y) (has_name x xs) k)
    | inr k ↦ inr k
  ]
]

abbrev with_name : List Chars → Chars → List Chars
with_name names y = if has_name y names then names else names ++ y ∷ []

joined-kept : (names own : List Chars) (x : Chars) → has_name x names ≡ true → has_name x (names_joined names own) ≡ true
joined-kept names [] x h = h
joined-kept names (y ∷ own) x h = joined-kept (with_name names y) own x (elim (cases_Bool (has_name y names)) [
  | inl e ↦ ap (has_name x) (cond-true (has_name y names) names (names ++ y ∷ []) e) ∙ h
  | inr e ↦ ap (has_name x) (cond-false (has_name y names) names (names ++ y ∷ []) e) ∙ name-front x names (y ∷ []) h
])

joined-added : (names own : List Chars) (x : Chars) → has_name x own ≡ true → has_name x (names_joined names own) ≡ true
joined-added names [] x h = absurd (true-false (sym h))
joined-added names (y ∷ own) x h = elim (or-either (same_name x y) (has_name x own) h) [
  | inl k ↦ joined-kept (with_name names y) own x (elim (cases_Bool (has_name y names)) [
    | inl e ↦ ap (has_name x) (cond-true (has_name y names) names (names ++ y ∷ []) e) ∙ ap (λ z. has_name z names) (name-true x y k) ∙ e
    | inr e ↦ ap (has_name x) (cond-false (has_name y names) names (names ++ y ∷ []) e) ∙ name-end x names (y ∷ []) (or-left (same_name x y) false k)
  ])
  | inr k ↦ joined-added (with_name names y) own x k
]

joined-either : (names own : List Chars) (x : Chars) → has_name x (names_joined names own) ≡ true → (has_name x names ≡ true) ⊎ (has_name x own ≡ true)
joined-either names [] x h = inl h
joined-either names (y ∷ own) x h = elim (joined-either (with_name names y) own x h) [
  | inr k ↦ inr (or-right (same_name x y) (has_name x own) k)
  | inl k ↦ elim (cases_Bool (has_name y names)) [
    | inl e ↦ inl (sym (ap (has_name x) (cond-true (has_name y names) names (names ++ y ∷ []) e)) ∙ k)
    | inr e ↦ elim (name-either x names (y ∷ []) (sym (ap (has_name x) (cond-false (has_name y names) names (names ++ y ∷ []) e)) ∙ k)) [
      | inl q ↦ inl q
      | inr q ↦ elim (or-either (same_name x y) false q) [
        | inl r ↦ inr (or-left (same_name x y) (has_name x own) r)
        | inr r ↦ absurd (true-false (sym r))
      ]
    ]
  ]
]

-- each of these is among those
abbrev pub AllNamed : List Chars → List Chars → Type 0
AllNamed names own = (x : Chars) → has_name x own ≡ true → has_name x names ≡ true

-- ---- nodes that were looked at

pub record IsVisited (ns : List Node) (ids : List ℕ) (names : List Chars) (id : ℕ) : Type 0 where
  pub node : Node
  pub stands : tree_at ns id ≡ node_tree ns node
  pub children : AllAmong ids (child_ids node)
  pub own : AllNamed names (own_names node)

-- the ids from the first on, before a place, were looked at
pub record IsWalked (ns : List Node) (t : ℕ) (ids : List ℕ) (names : List Chars) (at : ℕ) : Type 0 where
  pub within : (q : ℕ) → has_id q ids ≡ true → q < length ns
  pub begin : has_id t ids ≡ true
  pub visited : (k id : ℕ) → k < at → slice_get ids k ≡ Some id → IsVisited ns ids names id
  pub parts : (q : ℕ) → has_id q ids ≡ true → (x : Chars) → has_name x (free_names (tree_at ns q)) ≡ true → has_name x (free_names (tree_at ns t)) ≡ true
  pub sound : (x : Chars) → has_name x names ≡ true → has_name x (free_names (tree_at ns t)) ≡ true
  pub before : at ≤ length ids

got-has : (ids : List ℕ) (k id : ℕ) → slice_get ids k ≡ Some id → has_id id ids ≡ true
got-has [] k id e = absurd (cc e)
got-has (x ∷ ids) zero id e = let same : x ≡ id = cc e in or-left (id == x) (has_id id ids) (ap (λ (i : ℕ). id == i) same ∙ id-same id)
got-has (x ∷ ids) (suc k) id e = or-right (id == x) (has_id id ids) (got-has ids k id e)

has-got : (ids : List ℕ) (id : ℕ) → has_id id ids ≡ true → (k : ℕ) × (k < length ids) × (slice_get ids k ≡ Some id)
has-got [] id e = absurd (true-false (sym e))
has-got (x ∷ ids) id e = elim (or-either (id == x) (has_id id ids) e) [
  | inl h ↦ (0, omega arith, ap (λ (i : ℕ). Some i) (sym (same-id id x h)))
  | inr h ↦ let r = has-got ids id h in (suc r.0, (let l = r.1 in omega (arith, l)), r.2)
]

-- the id that is looked at next
pub next-within : (ns : List Node) (t : ℕ) (ids : List ℕ) (names : List Chars) (at id : ℕ) → IsWalked ns t ids names at → slice_get ids at ≡ Some id → id < length ns
next-within ns t ids names at id w e = w.within id (got-has ids at id e)

pub walk-begins : (ns : List Node) (t : ℕ) (ids : List ℕ) (names : List Chars) → t < length ns → ids ≡ with_id [] t → names ≡ [] → IsWalked ns t ids names 0
walk-begins ns t ids names l e n = record {
  within = λ q h. subst (λ (i : ℕ). i < length ns) (sym (has-one q t (sym (ap (has_id q) e) ∙ h))) l;
  begin = ap (has_id t) e ∙ or-left (t == t) false (id-same t);
  visited = λ k id h _. absurd (omega (arith, h));
  parts = λ q h x k. subst (λ (i : ℕ). has_name x (free_names (tree_at ns i)) ≡ true) (has-one q t (sym (ap (has_id q) e) ∙ h)) k;
  sound = λ x h. absurd (true-false (sym (sym (ap (has_name x) n) ∙ h)));
  before = omega arith;
}

-- what is in a child is in the node
child-part : (ns : List Node) (node : Node) (c : ℕ) (x : Chars) → has_id c (child_ids node) ≡ true → has_name x (free_names (tree_at ns c)) ≡ true → has_name x (free_names (node_tree ns node)) ≡ true
child-part ns (Free y ty) c x h k = absurd (true-false (sym h))
child-part ns (Bound i) c x h k = absurd (true-false (sym h))
child-part ns (Const d ts) c x h k = absurd (true-false (sym h))
child-part ns (App f a) c x h k = elim (or-either (c == f) (has_id c (a ∷ [])) h) [
  | inl e ↦ name-front x (free_names (tree_at ns f)) (free_names (tree_at ns a)) (subst (λ (i : ℕ). has_name x (free_names (tree_at ns i)) ≡ true) (same-id c f e) k)
  | inr e ↦ name-end x (free_names (tree_at ns f)) (free_names (tree_at ns a)) (subst (λ (i : ℕ). has_name x (free_names (tree_at ns i)) ≡ true) (has-one c a e) k)
]
child-part ns (Lam ty b) c x h k = subst (λ (i : ℕ). has_name x (free_names (tree_at ns i)) ≡ true) (has-one c b h) k

child-within : (id n : ℕ) (node : Node) (c : ℕ) → IsBelow id node → id < n → has_id c (child_ids node) ≡ true → c < n
child-within id n (Free y ty) c b l h = absurd (true-false (sym h))
child-within id n (Bound i) c b l h = absurd (true-false (sym h))
child-within id n (Const d ts) c b l h = absurd (true-false (sym h))
child-within id n (App f a) c b l h = elim (or-either (c == f) (has_id c (a ∷ [])) h) [
  | inl e ↦ let same = same-id c f e in let low = b.0 in omega (arith, same, low, l)
  | inr e ↦ let same = has-one c a e in let low = b.1 in omega (arith, same, low, l)
]
child-within id n (Lam ty f) c b l h = let same = has-one c f h in omega (arith, same, b, l)

own-part : (ns : List Node) (node : Node) (x : Chars) → has_name x (own_names node) ≡ true → has_name x (free_names (node_tree ns node)) ≡ true
own-part ns (Free y ty) x h = h
own-part ns (Bound i) x h = absurd (true-false (sym h))
own-part ns (Const d ts) x h = absurd (true-false (sym h))
own-part ns (App f a) x h = absurd (true-false (sym h))
own-part ns (Lam ty b) x h = absurd (true-false (sym h))

-- one node more
module _ (ns : List Node) (t : ℕ) (ids : List ℕ) (names : List Chars) (at id : ℕ) (node : Node) (w : IsWalked ns t ids names at) (got : slice_get ids at ≡ Some id)
    (stands : tree_at ns id ≡ node_tree ns node) (below : IsBelow id node) (ids2 : List ℕ) (names2 : List Chars)
    (is : ids2 ≡ with_ids ids (child_ids node)) (are : names2 ≡ names_joined names (own_names node)) where
  kept-id : (q : ℕ) → has_id q ids ≡ true → has_id q ids2 ≡ true
  kept-id q h = ap (has_id q) is ∙ with_ids-kept ids (child_ids node) q h

  kept-ids : (cs : List ℕ) → AllAmong ids cs → AllAmong ids2 cs
  kept-ids [] h = tt
  kept-ids (c ∷ cs) h = (kept-id c h.0, kept-ids cs h.1)

  kept-name : (x : Chars) → has_name x names ≡ true → has_name x names2 ≡ true
  kept-name x h = ap (has_name x) are ∙ joined-kept names (own_names node) x h

  here : has_id id ids ≡ true
  here = got-has ids at id got

  part : (x : Chars) → has_name x (free_names (node_tree ns node)) ≡ true → has_name x (free_names (tree_at ns t)) ≡ true
  part x h = w.parts id here x (ap (λ u. has_name x (free_names u)) stands ∙ h)

  either : (q : ℕ) → has_id q ids2 ≡ true → (has_id q ids ≡ true) ⊎ (has_id q (child_ids node) ≡ true)
  either q h = with_ids-either ids (child_ids node) q (sym (ap (has_id q) is) ∙ h)

  front : (more : List ℕ) × (ids2 ≡ ids ++ more)
  front = let f = with_ids-front ids (child_ids node) in (f.0, is ∙ f.1)

  longer : length ids ≤ length ids2
  longer = let l = ap length front.1 in let k = length-append ids front.0 in omega (arith, l, k)

  at-within : (xs : List ℕ) (k q : ℕ) → slice_get xs k ≡ Some q → k < length xs
  at-within [] k q e = absurd (cc e)
  at-within (x ∷ xs) zero q e = omega arith
  at-within (x ∷ xs) (suc k) q e = let l = at-within xs k q e in omega (arith, l)

  there : at < length ids
  there = at-within ids at id got

  new-visited : IsVisited ns ids2 names2 id
  new-visited = record {
    node = node;
    stands = stands;
    children = subst (λ (xs : List ℕ). AllAmong xs (child_ids node)) (sym is) (with_ids-added ids (child_ids node));
    own = λ x h. ap (has_name x) are ∙ joined-added names (own_names node) x h;
  }

  still-visited : (q : ℕ) → IsVisited ns ids names q → IsVisited ns ids2 names2 q
  still-visited q v = record { node = v.node; stands = v.stands; children = kept-ids (child_ids v.node) v.children; own = λ x h. kept-name x (v.own x h) }

  same-place : (k q : ℕ) → k < length ids → slice_get ids2 k ≡ Some q → slice_get ids k ≡ Some q
  same-place k q l e = sym (ap (λ xs. slice_get xs k) front.1 ∙ front-same ids front.0 k l) ∙ e

  pub walk-goes : IsWalked ns t ids2 names2 (at + 1)
  walk-goes = record {
    within = λ q h. elim (either q h) [
      | inl k ↦ w.within q k
      | inr k ↦ child-within id (length ns) node q below (w.within id here) k
    ];
    begin = kept-id t w.begin;
    visited = λ k q l e. elim (cases_Bool (nat_lt k at)) [
      | inl h ↦ let less : k < at = grind (arith, nat_tests) in
          still-visited q (w.visited k q less (same-place k q (let a = there in omega (arith, less, a)) e))
      | inr h ↦ let same : k ≡ at = grind (arith, nat_tests) in
          let place = same-place at q there (ap (slice_get ids2) (sym same) ∙ e) in
          let one : id ≡ q = same-some id q (sym got ∙ place) in subst (IsVisited ns ids2 names2) one new-visited
    ];
    parts = λ q h x k. elim (either q h) [
      | inl r ↦ w.parts q r x k
      | inr r ↦ part x (child-part ns node q x r k)
    ];
    sound = λ x h. elim (joined-either names (own_names node) x (sym (ap (has_name x) are) ∙ h)) [
      | inl r ↦ w.sound x r
      | inr r ↦ part x (own-part ns node x r)
    ];
    before = let a = there in let l = longer in omega (arith, a, l);
  }
    where
      same-some : (a b : ℕ) → Some a ≡ Some b → a ≡ b
      same-some a b e = cc e

-- there are no more ids than nodes
pub walk-few : (ns : List Node) (t : ℕ) (ids : List ℕ) (names : List Chars) (at : ℕ) → IsWalked ns t ids names at → IsDistinct ◌==◌ ids → length ids ≤ length ns
walk-few ns t ids names at w d = length-le_from_distinct_below ids (length ns) d w.within

-- ---- the end

module _ (ns : List Node) (ids : List ℕ) (names : List Chars) (all : (q : ℕ) → has_id q ids ≡ true → IsVisited ns ids names q) where
  free-own : (node : Node) (x : Chars) (ty : TypeTree) → node_tree ns node ≡ nameless_free x ty → AllNamed names (own_names node) → has_name x names ≡ true
  free-own (Free y u) x ty e h = let same : y ≡ x = cc e in h x (or-left (same_name x y) false (true-name x y (sym same)))
  free-own (Bound i) x ty e h = absurd (cc e)
  free-own (Const c ts) x ty e h = absurd (cc e)
  free-own (App f a) x ty e h = absurd (cc e)
  free-own (Lam u b) x ty e h = absurd (cc e)

  parts-of : (node : Node) (f a : Nameless) → node_tree ns node ≡ nameless_application f a → AllAmong ids (child_ids node)
      → (i : ℕ) × (j : ℕ) × (has_id i ids ≡ true) × (has_id j ids ≡ true) × (tree_at ns i ≡ f) × (tree_at ns j ≡ a)
  parts-of (App i j) f a e h = (i, j, h.0, h.1.0, cc e, cc e)
  parts-of (Free y u) f a e h = absurd (cc e)
  parts-of (Bound i) f a e h = absurd (cc e)
  parts-of (Const c ts) f a e h = absurd (cc e)
  parts-of (Lam u b) f a e h = absurd (cc e)

  body-of : (node : Node) (ty : TypeTree) (b : Nameless) → node_tree ns node ≡ nameless_abstraction ty b → AllAmong ids (child_ids node)
      → (i : ℕ) × (has_id i ids ≡ true) × (tree_at ns i ≡ b)
  body-of (Lam u i) ty b e h = (i, h.0, cc e)
  body-of (Free y u) ty b e h = absurd (cc e)
  body-of (Bound i) ty b e h = absurd (cc e)
  body-of (Const c ts) ty b e h = absurd (cc e)
  body-of (App f a) ty b e h = absurd (cc e)

  found-all : (t : Nameless) (q : ℕ) → has_id q ids ≡ true → tree_at ns q ≡ t → (x : Chars) → has_name x (free_names t) ≡ true → has_name x names ≡ true
  found-all (nameless_free y ty) q h e x k = let v = all q h in
      elim (or-either (same_name x y) false k) [
        | inl r ↦ ap (λ z. has_name z names) (name-true x y r) ∙ free-own v.node y ty (sym v.stands ∙ e) v.own
        | inr r ↦ absurd (true-false (sym r))
      ]
  found-all (nameless_bound i) q h e x k = absurd (true-false (sym k))
  found-all (nameless_loose y) q h e x k = absurd (true-false (sym k))
  found-all (nameless_constant c ts) q h e x k = absurd (true-false (sym k))
  found-all (nameless_application f a) q h e x k =
      let v = all q h in
      let p = parts-of v.node f a (sym v.stands ∙ e) v.children in
      elim (name-either x (free_names f) (free_names a) k) [
        | inl r ↦ found-all f p.0 p.2 p.4 x r
        | inr r ↦ found-all a p.1 p.3 p.5 x r
      ]
  found-all (nameless_abstraction ty b) q h e x k =
      let v = all q h in
      let p = body-of v.node ty b (sym v.stands ∙ e) v.children in
      found-all b p.0 p.1 p.2 x k

both-ways : (a b : Bool) → (a ≡ true → b ≡ true) → (b ≡ true → a ≡ true) → a ≡ b
both-ways true b h k = sym (h refl)
both-ways false true h k = k refl
both-ways false false h k = refl

pub walk-ends : (ns : List Node) (t : ℕ) (ids : List ℕ) (names : List Chars) (at : ℕ) → IsWalked ns t ids names at → length ids ≤ at → AreNamesOf (tree_at ns t) names
walk-ends ns t ids names at w l x =
    both-ways (has_name x names) (has_name x (free_names (tree_at ns t))) (w.sound x)
    (found-all ns ids names (λ q h. let r = has-got ids q h in w.visited r.0 q (let b = r.1 in omega (arith, b, l)) r.2) (tree_at ns t) t w.begin refl x)
