-- Terms of a store that are still to be walked.
use Rattle.std.proofs.Common.{◌≡◌, ℕ, suc, ◌+◌, ◌<◌, ◌≤◌, List, [], ◌∷◌, ◌++◌, length, sym, ap, ◌∙◌, subst, arith}
use Rattle.lt_nameless.specs.Nameless.{Nameless}
use Rattle.lt_store.specs.declared.node.Node.{Node}
use Rattle.lt_store.specs.declared.node.Node.TheVariants as node
use Rattle.lt_store.specs.Trees.{tree_at, node_tree, IsBelow, tree_size}
use Rattle.lt_programs.specs.TypeLengths.{longest_type_variable}
use Rattle.lt_derived.specs.NodeTypes.{child_ids, node_length}

-- how many nodes these terms have together
abbrev pub total : List Node → List ℕ → ℕ
total ns [] = 0
total ns (i ∷ is) = tree_size (tree_at ns i) + total ns is

-- each is below
abbrev pub Below : ℕ → List ℕ → Type 0
Below n [] = Unit {0}
Below n (i ∷ is) = (i < n) × Below n is

total-append : (ns : List Node) (xs ys : List ℕ) → total ns (xs ++ ys) ≡ total ns xs + total ns ys
total-append ns [] ys = omega arith
total-append ns (x ∷ xs) ys = let h = total-append ns xs ys in omega (arith, h)

below-append : (n : ℕ) (xs ys : List ℕ) → Below n xs → Below n ys → Below n (xs ++ ys)
below-append n [] ys h k = k
below-append n (x ∷ xs) ys h k = (h.0, below-append n xs ys h.1 k)

below-first : (n : ℕ) (xs ys : List ℕ) → Below n (xs ++ ys) → Below n xs
below-first n [] ys h = tt
below-first n (x ∷ xs) ys h = (h.0, below-first n xs ys h.1)

below-last : (n : ℕ) (xs : List ℕ) (y : ℕ) → Below n (xs ++ y ∷ []) → y < n
below-last n [] y h = h.0
below-last n (x ∷ xs) y h = below-last n xs y h.1

child-total : (ns : List Node) (n : Node) → tree_size (node_tree ns n) ≡ suc (total ns (child_ids n))
child-total ns (node.Free x t) = omega arith
child-total ns (node.Bound i) = omega arith
child-total ns (node.Const x ts) = omega arith
child-total ns (node.App f a) = omega arith
child-total ns (node.Lam t b) = omega arith

child-below : (l i : ℕ) (n : Node) → i < l → IsBelow i n → Below l (child_ids n)
child-below l i (node.Free x t) w h = tt
child-below l i (node.Bound k) w h = tt
child-below l i (node.Const x ts) w h = tt
child-below l i (node.App f a) w h = let p = h.0 in let q = h.1 in (omega (arith, w, p), (omega (arith, w, q), tt))
child-below l i (node.Lam t b) w h = (omega (arith, w, h), tt)

-- one turn
module _ (ns : List Node) (items rest : List ℕ) (id : ℕ) (below : Below (length ns) items) (was : items ≡ rest ++ id ∷ []) where
  pub turn-taken : id < length ns
  turn-taken = below-last (length ns) rest id (subst (Below (length ns)) was below)

  module _ (n : Node) (next : List ℕ) (new : next ≡ rest ++ child_ids n) (stands : tree_at ns id ≡ node_tree ns n) (inside : IsBelow id n) where
    pub turn-smaller : suc (total ns next) ≤ total ns items
    turn-smaller =
        let h = ap (total ns) was ∙ total-append ns rest (id ∷ []) in
        let k = ap (total ns) new ∙ total-append ns rest (child_ids n) in
        let p = ap tree_size stands ∙ child-total ns n in omega (arith, h, k, p)

    pub turn-below : Below (length ns) next
    turn-below = subst (Below (length ns)) (sym new)
        (below-append (length ns) rest (child_ids n) (below-first (length ns) rest (id ∷ []) (subst (Below (length ns)) was below)) (child-below (length ns) id n turn-taken inside))

-- ---- the lengths of type variables

abbrev pub AllShort : ℕ → List Node → List ℕ → Type 0
AllShort n ns [] = Unit {0}
AllShort n ns (i ∷ is) = (longest_type_variable (tree_at ns i) ≤ n) × AllShort n ns is

short-append : (n : ℕ) (ns : List Node) (xs ys : List ℕ) → AllShort n ns xs → AllShort n ns ys → AllShort n ns (xs ++ ys)
short-append n ns [] ys h k = k
short-append n ns (x ∷ xs) ys h k = (h.0, short-append n ns xs ys h.1 k)

short-parts : (n : ℕ) (ns : List Node) (xs ys : List ℕ) → AllShort n ns (xs ++ ys) → AllShort n ns xs × AllShort n ns ys
short-parts n ns [] ys h = (tt, h)
short-parts n ns (x ∷ xs) ys h = let k = short-parts n ns xs ys h.1 in ((h.0, k.0), k.1)

short-node : (n : ℕ) (ns : List Node) (v : Node) → node_length v ≤ n → AllShort n ns (child_ids v) → longest_type_variable (node_tree ns v) ≤ n
short-node n ns (node.Free x t) e h = e
short-node n ns (node.Bound i) e h = omega arith
short-node n ns (node.Const x ts) e h = e
short-node n ns (node.App f a) e h = let p = h.0 in let q = h.1.0 in omega (arith, p, q)
short-node n ns (node.Lam t b) e h = let p = h.0 in omega (arith, p, e)

-- what is short of what is left is short of what was
pub still-short : (n : ℕ) (ns : List Node) (items rest next : List ℕ) (id : ℕ) (v : Node) → items ≡ rest ++ id ∷ [] → next ≡ rest ++ child_ids v
    → tree_at ns id ≡ node_tree ns v → node_length v ≤ n → AllShort n ns next → AllShort n ns items
still-short n ns items rest next id v was new stands e h =
    let k = short-parts n ns rest (child_ids v) (subst (AllShort n ns) new h) in
    subst (AllShort n ns) (sym was) (short-append n ns rest (id ∷ []) k.0 (subst (λ (t : Nameless). longest_type_variable t ≤ n) (sym stands) (short-node n ns v e k.1), tt))
