-- Stores in which no node stands twice: ids stand for one term only where they are equal.
use Rattle.std.proofs.Common.{◌≡◌, ℕ, zero, suc, ◌<◌, ◌≤◌, List, [], ◌∷◌, ◌++◌, length, get_or, slice_get, Some, Bool, true, false, ap, sym, ◌∙◌, subst, arith, if◌then◌else◌, ◌⊎◌, inl, inr}
use Rattle.std.proofs.lemmas.Option.{slice_get-get_or, get_or_from_slice_get, slice_get_within}
use Rattle.std.proofs.lemmas.Map.Keys.{apart_from_distinct}
use Rattle.std.specs.List.{IsDistinct}
use Rattle.std.proofs.lemmas.Bool.{cases_lt, false≢true}
use Rattle.lt_store.specs.declared.node.Node.{Node}
use Rattle.lt_store.specs.declared.node.Node.TheVariants.{Free, Bound, Const, App, Lam}
use Rattle.lt_store.specs.Trees.{tree_at, node_tree, IsBelow, IsGrounded, Extends, Makes}
use Rattle.lt_store.proofs.TreeLemmas.{tree_at-node, makes, grounded_push, extends_push, extends_same}
use Rattle.lt_shared.specs.Separate.{IsSeparate}

module _ (ns : List Node) (grounded : IsGrounded ns) (separate : IsSeparate ns) where
  -- nodes with the same tree are one where their children's trees tell the children apart
  same_node : (k : ℕ) → ((i j : ℕ) → i < k → i < length ns → j < length ns → tree_at ns i ≡ tree_at ns j → i ≡ j)
      → (m n : Node) (x y : ℕ) → x ≤ k → x ≤ length ns → y ≤ length ns → IsBelow x m → IsBelow y n → node_tree ns m ≡ node_tree ns n → m ≡ n
  same_node k below (Free n t) (Free m u) x y w lx ly p q e = cc
  same_node k below (Bound i) (Bound j) x y w lx ly p q e = cc
  same_node k below (Const n ts) (Const m us) x y w lx ly p q e = cc
  same_node k below (App f a) (App g b) x y w lx ly p q e =
      let ef : f ≡ g = below f g (omega arith) (omega arith) (omega arith) cc in
      let ea : a ≡ b = below a b (omega arith) (omega arith) (omega arith) cc in
      cc
  same_node k below (Lam t b) (Lam u c) x y w lx ly p q e =
      let eb : b ≡ c = below b c (omega arith) (omega arith) (omega arith) cc in
      let et : t ≡ u = cc in
      cc
  same_node k below (Free n t) (Bound i) x y w lx ly p q e = cc
  same_node k below (Free n t) (Const m u) x y w lx ly p q e = cc
  same_node k below (Free n t) (App f a) x y w lx ly p q e = cc
  same_node k below (Free n t) (Lam u b) x y w lx ly p q e = cc
  same_node k below (Bound i) (Free m u) x y w lx ly p q e = cc
  same_node k below (Bound i) (Const m u) x y w lx ly p q e = cc
  same_node k below (Bound i) (App f a) x y w lx ly p q e = cc
  same_node k below (Bound i) (Lam u b) x y w lx ly p q e = cc
  same_node k below (Const n t) (Free m u) x y w lx ly p q e = cc
  same_node k below (Const n t) (Bound i) x y w lx ly p q e = cc
  same_node k below (Const n t) (App f a) x y w lx ly p q e = cc
  same_node k below (Const n t) (Lam u b) x y w lx ly p q e = cc
  same_node k below (App f a) (Free m u) x y w lx ly p q e = cc
  same_node k below (App f a) (Bound i) x y w lx ly p q e = cc
  same_node k below (App f a) (Const m u) x y w lx ly p q e = cc
  same_node k below (App f a) (Lam u b) x y w lx ly p q e = cc
  same_node k below (Lam t b) (Free m u) x y w lx ly p q e = cc
  same_node k below (Lam t b) (Bound i) x y w lx ly p q e = cc
  same_node k below (Lam t b) (Const m u) x y w lx ly p q e = cc
  same_node k below (Lam t b) (App f a) x y w lx ly p q e = cc

  same_below : (k i j : ℕ) → i < k → i < length ns → j < length ns → tree_at ns i ≡ tree_at ns j → i ≡ j
  same_below zero i j h hi hj e = absurd (omega arith)
  same_below (suc k) i j h hi hj e =
      let d : Node = Bound 0 in
      let m = get_or ns i d in
      let n = get_or ns j d in
      let at_i : slice_get ns i ≡ Some m = slice_get-get_or ns i d hi in
      let at_j : slice_get ns j ≡ Some n = slice_get-get_or ns j d hj in
      let bi = grounded i m at_i in
      let bj = grounded j n at_j in
      let same : m ≡ n = same_node k (same_below k) m n i j (omega arith) (omega arith) (omega arith) bi bj
      (sym (tree_at-node ns i m at_i bi) ∙ e ∙ tree_at-node ns j n at_j bj) in
      separate i j n (at_i ∙ ap Some same) at_j

  -- ids that stand for one term are equal
  pub same_id : (i j : ℕ) → i < length ns → j < length ns → tree_at ns i ≡ tree_at ns j → i ≡ j
  same_id i j hi hj e = same_below (suc i) i j (omega arith) hi hj e

-- keys that are distinct by an `==` that holds of each node and itself do not stand twice
pub separate_from_distinct : (eq : Node → Node → Bool) → ((n : Node) → eq n n ≡ true) → (ns : List Node) → IsDistinct eq ns → IsSeparate ns
separate_from_distinct eq own ns distinct i j n at_i at_j = by (cases_lt i j) (cases_lt j i)
  where
    -- one before the other would be equal to it
    apart : (i j : ℕ) → slice_get ns i ≡ Some n → slice_get ns j ≡ Some n → i < j → ⊥
    apart i j at_i at_j h =
        false≢true (sym (apart_from_distinct eq ns i j n distinct h (slice_get_within ns j n at_j))
        ∙ ap (λ x. eq x (get_or ns j n)) (get_or_from_slice_get ns i n n at_i) ∙ ap (eq n) (get_or_from_slice_get ns j n n at_j) ∙ own n)

    by : (i < j) ⊎ (j ≤ i) → (j < i) ⊎ (i ≤ j) → i ≡ j
    by (inl h) q = absurd (apart i j at_i at_j h)
    by (inr h) (inl q) = absurd (apart j i at_j at_i q)
    by (inr h) (inr q) = omega arith

-- a node behind its children may be added, where it isn't there
pub grounded_insert : (b : Bool) (ns : List Node) (n : Node) → IsGrounded ns → IsBelow (length ns) n → IsGrounded (if b then ns else ns ++ n ∷ [])
grounded_insert true ns n g h = g
grounded_insert false ns n g h = grounded_push ns n g h

-- what an insert into a store of distinct nodes owes
pub makes_insert : (b : Bool) (old new : List Node) (n k : Node) (id : ℕ) → new ≡ (if b then old else old ++ n ∷ []) → IsGrounded new → IsBelow (length old) n
    → slice_get new id ≡ Some k → n ≡ k → Makes old new n id
makes_insert b old new n k id e g h at same =
    let at' : slice_get new id ≡ Some n = at ∙ ap Some (sym same) in
    makes old new n id (by b e) h at' (g id n at')
  where
    by : (b : Bool) → new ≡ (if b then old else old ++ n ∷ []) → Extends old new
    by true e = subst (Extends old) (sym e) (extends_same old)
    by false e = extends_push old new n e
