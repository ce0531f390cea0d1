-- What a comparison of two nodes says of their terms, and what the loop of comparisons keeps.
use Rattle.std.proofs.Common.{◌≡◌, ℕ, zero, suc, ◌+◌, ◌<◌, ◌≤◌, List, [], ◌∷◌, ◌++◌, length, slice_get, get_or, Option, Some, None, Bool, true, false, refl, ap, sym, ◌∙◌, arith, ◌↔◌, if◌then◌else◌, ◌&&◌, nat_eq, sum_by, MatchOption, true≢false, subst, ◌⊎◌, inl, inr}
use Rattle.std.proofs.lemmas.List.Sums.{sum_by-append}
use Rattle.std.proofs.lemmas.Option.{slice_get-get_or}
use Rattle.std.proofs.lemmas.Bool.Decides.{nat_tests}
use Rattle.std.proofs.lemmas.Grind.{common_steps}
use Rattle.lt_definitions.specs.Types.{TypeTree, same_name, same_type, same_types, row}
use Rattle.lt_definitions.proofs.SameNames.{both-true, true-both, name-true, true-name, type-true, true-type, row-true, true-row}
use Rattle.lt_nameless.specs.Nameless.{Nameless, nameless_free, nameless_bound, nameless_constant, nameless_abstraction}
use Rattle.lt_store.specs.declared.node.Node.{Node}
use Rattle.lt_store.specs.declared.node.Node.TheVariants.{Free, Bound, Const, App, Lam}
use Rattle.lt_store.specs.Trees.{tree_at, node_tree, tree_size, IsBelow, IsGrounded}
use Rattle.lt_store.specs.Memos.{Memo, result_at, IsKept}
use Rattle.lt_store.specs.Parts.{parts_of}
use Rattle.lt_store.proofs.TreeLemmas.{tree_at-node, tree_size-positive}
use Rattle.lt_store.proofs.MemoLemmas.{Keeps, keeps_more, keeps_own, kept_back, result_of, kept_from}

-- the pairs stand for the same terms
abbrev pub AllSame : List Node → List (ℕ × ℕ) → Type 0
AllSame ns [] = Unit {0}
AllSame ns (p ∷ ps) = (tree_at ns p.0 ≡ tree_at ns p.1) × AllSame ns ps

-- the pairs are of ids below the bounds
abbrev pub AllIn : ℕ → ℕ → List (ℕ × ℕ) → Type 0
AllIn x y [] = Unit {0}
AllIn x y (p ∷ ps) = (p.0 < x) × (p.1 < y) × AllIn x y ps

abbrev pub pairs_size : List Node → List (ℕ × ℕ) → ℕ
pairs_size ns ps = sum_by (λ p. tree_size (tree_at ns p.0)) ps

-- what the parts of two nodes say of their terms
abbrev pub PartsSay : List Node → Nameless → Nameless → Option (List (ℕ × ℕ)) → Type 0
PartsSay ns x y None = x ≡ y → ⊥
PartsSay ns x y (Some ps) = ((x ≡ y) ↔ AllSame ns ps) × (pairs_size ns ps < tree_size x)

leaf_says : (ns : List Node) (x y : Nameless) (test : Bool) → (test ≡ true → x ≡ y) → (x ≡ y → test ≡ true) → PartsSay ns x y (if test then Some [] else None)
leaf_says ns x y true f g = ((λ _. tt, λ _. f refl), tree_size-positive x)
leaf_says ns x y false f g = λ e. true≢false (sym (g e))

lam_says : (ns : List Node) (t u : TypeTree) (b c : ℕ) (test : Bool) → (test ≡ true → t ≡ u) → (t ≡ u → test ≡ true)
    → PartsSay ns (nameless_abstraction t (tree_at ns b)) (nameless_abstraction u (tree_at ns c)) (if test then Some ((b, c) ∷ []) else None)
lam_says ns t u b c true f g = let r : t ≡ u = f refl in ((λ q. (cc, tt), λ q. cc), omega arith)
lam_says ns t u b c false f g = λ q. let s : t ≡ u = cc in true≢false (sym (g s))

number_true : (i j : ℕ) → nat_eq i j ≡ true → i ≡ j
number_true i j e = grind (arith, common_steps, nat_tests)

true_number : (i j : ℕ) → i ≡ j → nat_eq i j ≡ true
true_number i j e = grind (arith, common_steps, nat_tests)

pub parts_say : (ns : List Node) (m n : Node) → PartsSay ns (node_tree ns m) (node_tree ns n) (parts_of m n)
parts_say ns (Free n t) (Free m u) = leaf_says ns (nameless_free n t) (nameless_free m u) (same_name n m && same_type t u)
    (λ e. let h = both-true _ _ e in let p : n ≡ m = name-true n m h.0 in let q : t ≡ u = type-true t u h.1 in λ i. nameless_free (p i) (q i))
    (λ e. let p : n ≡ m = cc in let q : t ≡ u = cc in true-both _ _ (true-name n m p) (true-type t u q))
parts_say ns (Free n t) (Bound i) = λ e. cc
parts_say ns (Free n t) (Const m u) = λ e. cc
parts_say ns (Free n t) (App f a) = λ e. cc
parts_say ns (Free n t) (Lam u b) = λ e. cc
parts_say ns (Bound i) (Free m u) = λ e. cc
parts_say ns (Bound i) (Bound j) = leaf_says ns (nameless_bound i) (nameless_bound j) (nat_eq i j)
    (λ e. ap nameless_bound (number_true i j e)) (λ e. let p : i ≡ j = cc in true_number i j p)
parts_say ns (Bound i) (Const m u) = λ e. cc
parts_say ns (Bound i) (App f a) = λ e. cc
parts_say ns (Bound i) (Lam u b) = λ e. cc
parts_say ns (Const n t) (Free m u) = λ e. cc
parts_say ns (Const n t) (Bound i) = λ e. cc
parts_say ns (Const n t) (Const m u) = leaf_says ns (nameless_constant n t) (nameless_constant m u) (same_name n m && same_types (row t) (row u))
    (λ e. let h = both-true _ _ e in let p : n ≡ m = name-true n m h.0 in let q : t ≡ u = row-true t u h.1 in λ i. nameless_constant (p i) (q i))
    (λ e. let p : n ≡ m = cc in let q : t ≡ u = cc in true-both _ _ (true-name n m p) (true-row t u q))
parts_say ns (Const n t) (App f a) = λ e. cc
parts_say ns (Const n t) (Lam u b) = λ e. cc
parts_say ns (App f a) (Free m u) = λ e. cc
parts_say ns (App f a) (Bound i) = λ e. cc
parts_say ns (App f a) (Const m u) = λ e. cc
parts_say ns (App f a) (App g b) = ((λ e. (cc, (cc, tt)), λ e. cc), omega arith)
parts_say ns (App f a) (Lam u b) = λ e. cc
parts_say ns (Lam t b) (Free m u) = λ e. cc
parts_say ns (Lam t b) (Bound i) = λ e. cc
parts_say ns (Lam t b) (Const m u) = λ e. cc
parts_say ns (Lam t b) (App f a) = λ e. cc
parts_say ns (Lam t b) (Lam u c) = lam_says ns t u b c (same_type t u) (type-true t u) (true-type t u)

-- the parts of a node are below it
module _ (x y : ℕ) where
  abbrev PartsIn : Option (List (ℕ × ℕ)) → Type 0
  PartsIn None = Unit {0}
  PartsIn (Some ps) = AllIn x y ps

  none_in : (b : Bool) → PartsIn (if b then Some [] else None)
  none_in true = tt
  none_in false = tt

  one_in : (b : Bool) (c d : ℕ) → c < x → d < y → PartsIn (if b then Some ((c, d) ∷ []) else None)
  one_in true c d p q = (p, q, tt)
  one_in false c d p q = tt

  parts_in : (m n : Node) → IsBelow x m → IsBelow y n → PartsIn (parts_of m n)
  parts_in (Free n t) (Free m u) p q = none_in _
  parts_in (Bound i) (Bound j) p q = none_in _
  parts_in (Const n t) (Const m u) p q = none_in _
  parts_in (App f a) (App g b) p q = (p.0, q.0, (p.1, q.1, tt))
  parts_in (Lam t b) (Lam u c) p q = one_in _ b c p q
  parts_in (Free n t) (Bound i) p q = tt
  parts_in (Free n t) (Const m u) p q = tt
  parts_in (Free n t) (App f a) p q = tt
  parts_in (Free n t) (Lam u b) p q = tt
  parts_in (Bound i) (Free m u) p q = tt
  parts_in (Bound i) (Const m u) p q = tt
  parts_in (Bound i) (App f a) p q = tt
  parts_in (Bound i) (Lam u b) p q = tt
  parts_in (Const n t) (Free m u) p q = tt
  parts_in (Const n t) (Bound i) p q = tt
  parts_in (Const n t) (App f a) p q = tt
  parts_in (Const n t) (Lam u b) p q = tt
  parts_in (App f a) (Free m u) p q = tt
  parts_in (App f a) (Bound i) p q = tt
  parts_in (App f a) (Const m u) p q = tt
  parts_in (App f a) (Lam u b) p q = tt
  parts_in (Lam t b) (Free m u) p q = tt
  parts_in (Lam t b) (Bound i) p q = tt
  parts_in (Lam t b) (Const m u) p q = tt
  parts_in (Lam t b) (App f a) p q = tt

AllSame-append : (ns : List Node) (ps qs : List (ℕ × ℕ)) → AllSame ns (ps ++ qs) ↔ (AllSame ns ps × AllSame ns qs)
AllSame-append ns [] qs = (λ h. (tt, h), λ h. h.1)
AllSame-append ns (p ∷ ps) qs =
    let r = AllSame-append ns ps qs in
    (λ h. ((h.0, (r.0 h.1).0), (r.0 h.1).1), λ h. (h.0.0, r.1 (h.0.1, h.1)))

AllIn-append : (x y : ℕ) (ps qs : List (ℕ × ℕ)) → AllIn x y ps → AllIn x y qs → AllIn x y (ps ++ qs)
AllIn-append x y [] qs p q = q
AllIn-append x y (r ∷ ps) qs p q = (p.0, p.1, AllIn-append x y ps qs p.2 q)

AllIn-front : (x y : ℕ) (ps qs : List (ℕ × ℕ)) → AllIn x y (ps ++ qs) → AllIn x y ps
AllIn-front x y [] qs h = tt
AllIn-front x y (p ∷ ps) qs h = (h.0, h.1, AllIn-front x y ps qs h.2)

AllIn-wider : (x y l : ℕ) (ps : List (ℕ × ℕ)) → x ≤ l → y ≤ l → AllIn x y ps → AllIn l l ps
AllIn-wider x y l [] p q h = tt
AllIn-wider x y l (r ∷ ps) p q h = (omega arith, omega arith, AllIn-wider x y l ps p q h.2)

-- the last pair is of ids below the bounds
pub last_in : (l : ℕ) (all rest : List (ℕ × ℕ)) (x y : ℕ) → all ≡ rest ++ (x, y) ∷ [] → AllIn l l all → (x < l) × (y < l)
last_in l all rest x y e h = by rest (subst (AllIn l l) e h)
  where
    by : (rest : List (ℕ × ℕ)) → AllIn l l (rest ++ (x, y) ∷ []) → (x < l) × (y < l)
    by [] h = (h.0, h.1)
    by (r ∷ rest) h = by rest h.2

-- the pair waits
abbrev Waits : ℕ × ℕ → List (ℕ × ℕ) → Type 0
Waits p [] = ⊥
Waits p (q ∷ qs) = (q ≡ p) ⊎ Waits p qs

-- the pair is of one id, was looked at, or waits
abbrev pub IsMet : Memo → List (ℕ × ℕ) → ℕ × ℕ → Type 0
IsMet m ps p = (p.0 ≡ p.1) ⊎ (IsKept m p ⊎ Waits p ps)

abbrev AllMet : Memo → List (ℕ × ℕ) → List (ℕ × ℕ) → Type 0
AllMet m ps [] = Unit {0}
AllMet m ps (q ∷ qs) = IsMet m ps q × AllMet m ps qs

abbrev PartsMet : Memo → List (ℕ × ℕ) → Option (List (ℕ × ℕ)) → Type 0
PartsMet m ps None = ⊥
PartsMet m ps (Some qs) = AllMet m ps qs

-- the parts of each pair that was looked at are met
abbrev pub IsClosed : List Node → Memo → List (ℕ × ℕ) → Type 0
IsClosed ns m ps = (x y : ℕ) (k n : Node) → IsKept m (x, y) → slice_get ns x ≡ Some k → slice_get ns y ≡ Some n → PartsMet m ps (parts_of k n)

-- with nothing that waits, a pair that is met stands for one term
module _ (ns : List Node) (grounded : IsGrounded ns) (m : Memo) (closed : IsClosed ns m []) where
  all_same : (k : ℕ) → ((x y : ℕ) → x < k → x < length ns → y < length ns → IsMet m [] (x, y) → tree_at ns x ≡ tree_at ns y)
      → (x y : ℕ) (ps : List (ℕ × ℕ)) → x ≤ k → x ≤ length ns → y ≤ length ns → AllIn x y ps → AllMet m [] ps → AllSame ns ps
  all_same k below x y [] wk wx wy i h = tt
  all_same k below x y (p ∷ ps) wk wx wy i h = (below p.0 p.1 (omega (arith, i.0)) (omega (arith, i.0)) (omega (arith, i.1)) h.0, all_same k below x y ps wk wx wy i.2 h.1)

  same_below : (k x y : ℕ) → x < k → x < length ns → y < length ns → IsMet m [] (x, y) → tree_at ns x ≡ tree_at ns y
  same_below zero x y h hx hy met = absurd (omega arith)
  same_below (suc k) x y h hx hy (inl e) = ap (tree_at ns) e
  same_below (suc k) x y h hx hy (inr (inr w)) = absurd w
  same_below (suc k) x y h hx hy (inr (inl own)) =
      let a = get_or ns x (Bound 0) in
      let b = get_or ns y (Bound 0) in
      let at_x : slice_get ns x ≡ Some a = slice_get-get_or ns x (Bound 0) hx in
      let at_y : slice_get ns y ≡ Some b = slice_get-get_or ns y (Bound 0) hy in
      let is_x : tree_at ns x ≡ node_tree ns a = tree_at-node ns x a at_x (grounded x a at_x) in
      let is_y : tree_at ns y ≡ node_tree ns b = tree_at-node ns y b at_y (grounded y b at_y) in
      is_x ∙ by (same_below k) a b (parts_of a b) (parts_say ns a b) (parts_in x y a b (grounded x a at_x) (grounded y b at_y)) (closed x y a b own at_x at_y) ∙ sym is_y
    where
      by : ((x y : ℕ) → x < k → x < length ns → y < length ns → IsMet m [] (x, y) → tree_at ns x ≡ tree_at ns y)
          → (a b : Node) (o : Option (List (ℕ × ℕ))) → PartsSay ns (node_tree ns a) (node_tree ns b) o → PartsIn x y o → PartsMet m [] o → node_tree ns a ≡ node_tree ns b
      by below a b None s i met = absurd met
      by below a b (Some ps) s i met = s.0.1 (all_same k below x y ps (omega arith) (omega arith) (omega arith) i met)

  pub same_at_end : (x y : ℕ) → x < length ns → y < length ns → IsMet m [] (x, y) → tree_at ns x ≡ tree_at ns y
  same_at_end x y hx hy met = same_below (suc x) x y (omega arith) hx hy met

-- What the loop keeps.
pub record IsCompared (ns : List Node) (a b : ℕ) (m : Memo) (ps : List (ℕ × ℕ)) : Type 0 where
  pub in_range : AllIn (length ns) (length ns) ps
  pub needed : tree_at ns a ≡ tree_at ns b → AllSame ns ps
  pub closed : IsClosed ns m ps
  pub met : IsMet m ps (a, b)

-- at the end the two are the same
pub compared_last : (ns : List Node) (a b : ℕ) (m : Memo) (ps : List (ℕ × ℕ)) → IsGrounded ns → a < length ns → b < length ns → ps ≡ [] → IsCompared ns a b m ps → tree_at ns a ≡ tree_at ns b
compared_last ns a b m ps grounded ha hb is now =
    let end = subst (IsCompared ns a b m) is now in
    same_at_end ns grounded m end.closed a b ha hb end.met

pub compared_first : (ns : List Node) (a b : ℕ) (m : Memo) (ps : List (ℕ × ℕ)) → a < length ns → b < length ns → ((i d : ℕ) → result_at m i d ≡ None) → ps ≡ (a, b) ∷ [] → IsCompared ns a b m ps
compared_first ns a b m ps ha hb none is = subst (IsCompared ns a b m) (sym is) (record {
  in_range = (ha, hb, tt);
  needed = λ e. (e, tt);
  closed = λ x y k n own _ _. absurd (by x y (result_of m x y own));
  met = inr (inr (inl refl));
})
  where
    by : (x y : ℕ) → ((r : ℕ) × (result_at m x y ≡ Some r)) → ⊥
    by x y r = let e = none x y in let f = r.1 in cc

module _ (ns : List Node) (a b : ℕ) (m : Memo) (all rest : List (ℕ × ℕ)) (x y : ℕ) (was : all ≡ rest ++ (x, y) ∷ []) (now : IsCompared ns a b m all) where
  waits_front : (rest : List (ℕ × ℕ)) (p : ℕ × ℕ) → Waits p (rest ++ (x, y) ∷ []) → ((x, y) ≡ p) ⊎ Waits p rest
  waits_front [] p (inl e) = inl e
  waits_front [] p (inr w) = absurd w
  waits_front (r ∷ rest) p (inl e) = inr (inl e)
  waits_front (r ∷ rest) p (inr w) = by (waits_front rest p w)
    where
      by : ((x, y) ≡ p) ⊎ Waits p rest → ((x, y) ≡ p) ⊎ Waits p (r ∷ rest)
      by (inl e) = inl e
      by (inr w) = inr (inr w)

  waits_left : (rest new : List (ℕ × ℕ)) (p : ℕ × ℕ) → Waits p rest → Waits p (rest ++ new)
  waits_left [] new p w = absurd w
  waits_left (r ∷ rest) new p (inl e) = inl e
  waits_left (r ∷ rest) new p (inr w) = inr (waits_left rest new p w)

  waits_right : (rest new : List (ℕ × ℕ)) (p : ℕ × ℕ) → Waits p new → Waits p (rest ++ new)
  waits_right [] new p w = w
  waits_right (r ∷ rest) new p w = inr (waits_right rest new p w)

  sizes : pairs_size ns all ≡ pairs_size ns rest + tree_size (tree_at ns x)
  sizes = omega (arith, ap (pairs_size ns) was, sum_by-append (λ (p : ℕ × ℕ). tree_size (tree_at ns p.0)) rest ((x, y) ∷ []))

  split : AllSame ns all → AllSame ns rest × AllSame ns ((x, y) ∷ [])
  split h = (AllSame-append ns rest ((x, y) ∷ [])).0 (subst (AllSame ns) was h)

  pub pair_in : (x < length ns) × (y < length ns)
  pair_in = last_in (length ns) all rest x y was now.in_range

  -- a pair that is met anyway is passed over
  module _ (own : (x ≡ y) ⊎ IsKept m (x, y)) where
    met_still : (p : ℕ × ℕ) → IsMet m all p → IsMet m rest p
    met_still p (inl e) = inl e
    met_still p (inr (inl k)) = inr (inl k)
    met_still p (inr (inr w)) = by (waits_front rest p (subst (Waits p) was w)) own
      where
        by : ((x, y) ≡ p) ⊎ Waits p rest → (x ≡ y) ⊎ IsKept m (x, y) → IsMet m rest p
        by (inr w) o = inr (inr w)
        by (inl e) (inl s) = inl (sym (ap (λ (q : ℕ × ℕ). q.0) e) ∙ s ∙ ap (λ (q : ℕ × ℕ). q.1) e)
        by (inl e) (inr k) = inr (inl (subst (IsKept m) e k))

    all_met_still : (ps : List (ℕ × ℕ)) → AllMet m all ps → AllMet m rest ps
    all_met_still [] h = tt
    all_met_still (p ∷ ps) h = (met_still p h.0, all_met_still ps h.1)

    parts_met_still : (o : Option (List (ℕ × ℕ))) → PartsMet m all o → PartsMet m rest o
    parts_met_still None h = h
    parts_met_still (Some ps) h = all_met_still ps h

    pub passed_over : IsCompared ns a b m rest
    passed_over = record {
      in_range = AllIn-front _ _ rest ((x, y) ∷ []) (subst (AllIn (length ns) (length ns)) was now.in_range);
      needed = λ e. (split (now.needed e)).0;
      closed = λ i j k n own at_i at_j. parts_met_still (parts_of k n) (now.closed i j k n own at_i at_j);
      met = met_still (a, b) now.met;
    }

  pub passed_smaller : pairs_size ns rest < pairs_size ns all
  passed_smaller = omega (arith, sizes, tree_size-positive (tree_at ns x))

  -- the parts of the pair wait in its place
  module _ (grounded : IsGrounded ns) (after : List (ℕ × ℕ)) (m' : Memo) (law : Keeps m m' x y x) (k n : Node) (at_x : slice_get ns x ≡ Some k) (at_y : slice_get ns y ≡ Some n)
      (alike : Bool) (parts : MatchOption (parts_of k n) (alike ≡ false) (λ ps. (alike ≡ true) × (after ≡ rest ++ ps))) where
    said : PartsSay ns (tree_at ns x) (tree_at ns y) (parts_of k n)
    said = rw (tree_at-node ns x k at_x (grounded x k at_x), tree_at-node ns y n at_y (grounded y n at_y)) (parts_say ns k n)

    pub pair_differs : alike ≡ false → tree_at ns a ≡ tree_at ns b → ⊥
    pair_differs e same = by (parts_of k n) parts said
      where
        by : (o : Option (List (ℕ × ℕ))) → MatchOption o (alike ≡ false) (λ ps. (alike ≡ true) × (after ≡ rest ++ ps)) → PartsSay ns (tree_at ns x) (tree_at ns y) o → ⊥
        by None p s = s (split (now.needed same)).1.0
        by (Some ps) p s = true≢false (sym p.0 ∙ e)

    module _ (ps : List (ℕ × ℕ)) (is : after ≡ rest ++ ps) (are : parts_of k n ≡ Some ps) where
      met_on : (p : ℕ × ℕ) → IsMet m all p → IsMet m' after p
      met_on p (inl e) = inl e
      met_on p (inr (inl o)) = inr (inl (keeps_more m m' x y x law p o))
      met_on p (inr (inr w)) = by (waits_front rest p (subst (Waits p) was w))
        where
          by : ((x, y) ≡ p) ⊎ Waits p rest → IsMet m' after p
          by (inl e) = inr (inl (subst (IsKept m') e (keeps_own m m' x y x law)))
          by (inr w) = inr (inr (subst (Waits p) (sym is) (waits_left rest ps p w)))

      all_met_on : (qs : List (ℕ × ℕ)) → AllMet m all qs → AllMet m' after qs
      all_met_on [] h = tt
      all_met_on (p ∷ qs) h = (met_on p h.0, all_met_on qs h.1)

      parts_met_on : (o : Option (List (ℕ × ℕ))) → PartsMet m all o → PartsMet m' after o
      parts_met_on None h = h
      parts_met_on (Some qs) h = all_met_on qs h

      waiting : (qs : List (ℕ × ℕ)) → ((p : ℕ × ℕ) → Waits p qs → Waits p ps) → AllMet m' after qs
      waiting [] h = tt
      waiting (q ∷ qs) h = (inr (inr (subst (Waits q) (sym is) (waits_right rest ps q (h q (inl refl))))), waiting qs (λ p w. h p (inr w)))

      closed_on : IsClosed ns m' after
      closed_on i j k' n' own at_i at_j = by (result_of m' i j own)
        where
          by : ((r : ℕ) × (result_at m' i j ≡ Some r)) → PartsMet m' after (parts_of k' n')
          by r = then_by (kept_back m m' x y x law i j r.0 r.1)
            where
              then_by : ((x ≡ i) × (y ≡ j) × (x ≡ r.0)) ⊎ (result_at m i j ≡ Some r.0) → PartsMet m' after (parts_of k' n')
              then_by (inl e) =
                  let same_k : k ≡ k' = let p = ap (slice_get ns) e.0 in cc in
                  let same_n : n ≡ n' = let p = ap (slice_get ns) e.1 in cc in
                  let o : parts_of k' n' ≡ Some ps = ap (λ v. parts_of v n') (sym same_k) ∙ ap (parts_of k) (sym same_n) ∙ are in
                  subst (PartsMet m' after) (sym o) (waiting ps (λ p w. w))
              then_by (inr e) = parts_met_on (parts_of k' n') (now.closed i j k' n' (kept_from m i j r.0 e) at_i at_j)

    pub record GoesOn : Type 0 where
      pub compared : IsCompared ns a b m' after
      pub smaller : pairs_size ns after < pairs_size ns all

    pub goes_on : alike ≡ true → GoesOn
    goes_on e = by (parts_of k n) refl parts said (parts_in x y k n (grounded x k at_x) (grounded y n at_y))
      where
        by : (o : Option (List (ℕ × ℕ))) → parts_of k n ≡ o → MatchOption o (alike ≡ false) (λ ps. (alike ≡ true) × (after ≡ rest ++ ps)) → PartsSay ns (tree_at ns x) (tree_at ns y) o → PartsIn x y o → GoesOn
        by None are p s i = absurd (true≢false (sym e ∙ p))
        by (Some ps) are p s i = record {
          compared = record {
            in_range = subst (AllIn (length ns) (length ns)) (sym p.1) (AllIn-append _ _ rest ps (AllIn-front _ _ rest ((x, y) ∷ []) (subst (AllIn (length ns) (length ns)) was now.in_range)) (AllIn-wider x y (length ns) ps (omega (arith, pair_in.0)) (omega (arith, pair_in.1)) i));
            needed = λ q. let h = split (now.needed q) in subst (AllSame ns) (sym p.1) ((AllSame-append ns rest ps).1 (h.0, s.0.0 h.1.0));
            closed = closed_on ps p.1 are;
            met = met_on ps p.1 are (a, b) now.met;
          };
          smaller = omega (arith, ap (pairs_size ns) p.1, sizes, sum_by-append (λ (p : ℕ × ℕ). tree_size (tree_at ns p.0)) rest ps, s.1);
        }
