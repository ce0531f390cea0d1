-- Nodes of terms that are still to be counted.
use Rattle.std.proofs.Common.{◌≡◌, ℕ, suc, ◌+◌, ◌<◌, ◌≤◌, List, [], ◌∷◌, ◌++◌, length, replicate, max, min, ◌-◌, Option, None, Bool, true, if◌then◌else◌, nat_lt, inl, inr, false, ◌&&◌, ◌||◌, refl, sym, ap, ◌∙◌, subst, arith}
use Rattle.std.proofs.lemmas.List.{length-replicate}
use Rattle.std.proofs.lemmas.Bool.{cases_Bool, and_parts}
use Rattle.lt_definitions.specs.Types.{Chars, same_name, TypeTree, same_type, type_nodes}
use Rattle.lt_nameless.specs.Nameless.{Nameless, nameless_free, nameless_bound, nameless_loose, nameless_constant, nameless_application, nameless_abstraction}
use Rattle.lt_nameless.specs.NamelessRules.{nameless_has_free}
use Rattle.lt_definitions.proofs.SameNames.{name-true}
use Rattle.lt_store.specs.declared.node.Node.{Node}
use Rattle.lt_store.specs.declared.node.Node.TheVariants as node
use Rattle.lt_store.specs.Trees.{tree_at, node_tree, IsBelow}
use Rattle.lt_store.specs.Passes.{longest_free}
use Rattle.lt_reductions.specs.Reducts.{nodes, nodes_over, IsShort}
use Rattle.lt_types.specs.Layout.{type_size}
use Rattle.lt_terms.proofs.NodeCounts.{size-nodes}
use Rattle.lt_reductions.proofs.Putting.{less-not}
use Rattle.lt_conv.specs.Conversions.{node_length, node_count, variable_count, Counts}
use Rattle.lt_derived.specs.NodeTypes.{child_ids}

-- how many nodes these terms have together
abbrev pub total : ℕ → List Node → List ℕ → ℕ
total floor ns [] = 0
total floor ns (i ∷ is) = nodes_over floor (tree_at ns i) + total floor ns is

-- each is below
abbrev pub Below : ℕ → List ℕ → Type 0
Below n [] = Unit {0}
Below n (i ∷ is) = (i < n) × Below n is

pub total-append : (floor : ℕ) (ns : List Node) (xs ys : List ℕ) → total floor ns (xs ++ ys) ≡ total floor ns xs + total floor ns ys
total-append floor ns [] ys = omega arith
total-append floor ns (x ∷ xs) ys = let h = total-append floor ns xs ys in omega (arith, h)

below-append : (n : ℕ) (xs ys : List ℕ) → Below n xs → Below n ys → Below n (xs ++ ys)
below-append n [] ys h k = k
below-append n (x ∷ xs) ys h k = (h.0, below-append n xs ys h.1 k)

below-first : (n : ℕ) (xs ys : List ℕ) → Below n (xs ++ ys) → Below n xs
below-first n [] ys h = tt
below-first n (x ∷ xs) ys h = (h.0, below-first n xs ys h.1)

below-last : (n : ℕ) (xs : List ℕ) (y : ℕ) → Below n (xs ++ y ∷ []) → y < n
below-last n [] y h = h.0
below-last n (x ∷ xs) y h = below-last n xs y h.1

child-total : (floor : ℕ) (ns : List Node) (n : Node) → nodes_over floor (node_tree ns n) ≡ node_count floor n + total floor ns (child_ids n)
child-total floor ns (node.Free x t) = omega arith
child-total floor ns (node.Bound i) = omega arith
child-total floor ns (node.Const x ts) = omega arith
child-total floor ns (node.App f a) = omega arith
child-total floor ns (node.Lam t b) = omega arith

count-positive : (floor : ℕ) (n : Node) → 1 ≤ node_count floor n
count-positive floor (node.Free x t) = either (nat_lt floor (length x))
  where
    either : (c : Bool) → 1 ≤ (if c then 1 else 1 + type_nodes t)
    either true = omega arith
    either false = omega arith
count-positive floor (node.Bound i) = omega arith
count-positive floor (node.Const x ts) = omega arith
count-positive floor (node.App f a) = omega arith
count-positive floor (node.Lam t b) = omega arith

child-below : (l i : ℕ) (n : Node) → i < l → IsBelow i n → Below l (child_ids n)
child-below l i (node.Free x t) w h = tt
child-below l i (node.Bound k) w h = tt
child-below l i (node.Const x ts) w h = tt
child-below l i (node.App f a) w h = let p = h.0 in let q = h.1 in (omega (arith, w, p), (omega (arith, w, q), tt))
child-below l i (node.Lam t b) w h = (omega (arith, w, h), tt)

module _ (floor : ℕ) (ns : List Node) (items rest : List ℕ) (id seen most whole : ℕ) (below : Below (length ns) items) (counted : seen + total floor ns items ≡ whole) (few : seen ≤ most) (was : items ≡ rest ++ id ∷ []) where
  split : total floor ns items ≡ total floor ns rest + nodes_over floor (tree_at ns id)
  split = let h = ap (total floor ns) was ∙ total-append floor ns rest (id ∷ []) in omega (arith, h)

  pub taken : id < length ns
  taken = below-last (length ns) rest id (subst (Below (length ns)) was below)

  module _ (n : Node) (stands : tree_at ns id ≡ node_tree ns n) (inside : IsBelow id n) where
    -- a node that is too many
    pub too-many : (cap more : ℕ) → more ≡ min (node_count floor n) cap → most - seen < more → most < whole
    too-many cap more e h = let s = split in let p = ap (nodes_over floor) stands ∙ child-total floor ns n in omega (arith, s, p, e, h, counted)

    module _ (next : List ℕ) (new : next ≡ rest ++ child_ids n) where
      one-less : total floor ns items ≡ node_count floor n + total floor ns next
      one-less =
          let h = split in
          let k = ap (total floor ns) new ∙ total-append floor ns rest (child_ids n) in
          let p = ap (nodes_over floor) stands ∙ child-total floor ns n in omega (arith, h, k, p)

      pub smaller : suc (total floor ns next) ≤ total floor ns items
      smaller = let h = one-less in let p = count-positive floor n in omega (arith, h, p)

      pub still-counted : (cap more : ℕ) → most < cap → more ≡ min (node_count floor n) cap → more ≤ most - seen → seen + more + total floor ns next ≡ whole
      still-counted cap more c e l = let h = one-less in omega (arith, h, counted, c, e, l)

      pub still-below : Below (length ns) next
      still-below = subst (Below (length ns)) (sym new) (below-append (length ns) rest (child_ids n) (below-first (length ns) rest (id ∷ []) (subst (Below (length ns)) was below)) (child-below (length ns) id n taken inside))

-- ---- the lengths of names

abbrev pub AllShort : ℕ → List Node → List ℕ → Type 0
AllShort n ns [] = Unit {0}
AllShort n ns (i ∷ is) = IsShort n (tree_at ns i) × AllShort n ns is

short-append : (n : ℕ) (ns : List Node) (xs ys : List ℕ) → AllShort n ns xs → AllShort n ns ys → AllShort n ns (xs ++ ys)
short-append n ns [] ys h k = k
short-append n ns (x ∷ xs) ys h k = (h.0, short-append n ns xs ys h.1 k)

short-first : (n : ℕ) (ns : List Node) (xs ys : List ℕ) → AllShort n ns (xs ++ ys) → AllShort n ns xs × AllShort n ns ys
short-first n ns [] ys h = (tt, h)
short-first n ns (x ∷ xs) ys h = let k = short-first n ns xs ys h.1 in ((h.0, k.0), k.1)

short-node : (n : ℕ) (ns : List Node) (v : Node) → node_length v ≤ n → AllShort n ns (child_ids v) → IsShort n (node_tree ns v)
short-node n ns (node.Free x t) e h = e
short-node n ns (node.Bound i) e h = tt
short-node n ns (node.Const x ts) e h = tt
short-node n ns (node.App f a) e h = (h.0, h.1.0)
short-node n ns (node.Lam t b) e h = h.0

pub still-short : (n : ℕ) (ns : List Node) (items rest next : List ℕ) (id : ℕ) (v : Node) → items ≡ rest ++ id ∷ [] → next ≡ rest ++ child_ids v → tree_at ns id ≡ node_tree ns v → node_length v ≤ n
    → AllShort n ns next → AllShort n ns items
still-short n ns items rest next id v was new stands e h =
    let k = short-first n ns rest (child_ids v) (subst (AllShort n ns) new h) in
    subst (AllShort n ns) (sym was) (short-append n ns rest (id ∷ []) k.0 (subst (IsShort n) (sym stands) (short-node n ns v e k.1), tt))

longer : (n : ℕ) (y : Chars) (ty u : TypeTree) → length y ≤ n → (same_name (replicate (suc n) 116) y && same_type ty u) ≡ false
longer n y ty u h = elim (cases_Bool (same_name (replicate (suc n) 116) y && same_type ty u)) [
  | inl e ↦ absurd (let p = name-true (replicate (suc n) 116) y (and_parts (same_name (replicate (suc n) 116) y) (same_type ty u) e).0 in
      let q = length-replicate {A = ℕ} (suc n) 116 in let r = ap length p in omega (arith, q, r, h))
  | inr e ↦ e
]

-- a longer name is no free variable's
pub short-new : (n : ℕ) (ty : TypeTree) (t : Nameless) → IsShort n t → nameless_has_free (replicate (suc n) 116) ty t ≡ false
short-new n ty (nameless_free y u) h = longer n y ty u h
short-new n ty (nameless_bound i) h = refl
short-new n ty (nameless_loose x) h = refl
short-new n ty (nameless_constant c ts) h = refl
short-new n ty (nameless_application f a) h = ap (λ b. b || nameless_has_free (replicate (suc n) 116) ty a) (short-new n ty f h.0) ∙ short-new n ty a h.1
short-new n ty (nameless_abstraction u b) h = short-new n ty b h

-- a turn that doesn't count
pub turn-taken : (ns : List Node) (items rest : List ℕ) (id : ℕ) → Below (length ns) items → items ≡ rest ++ id ∷ [] → id < length ns
turn-taken ns items rest id b was = taken 0 ns items rest id 0 0 (0 + total 0 ns items) b refl (omega arith) was

pub turn-smaller : (ns : List Node) (items rest next : List ℕ) (id : ℕ) (v : Node) → Below (length ns) items → items ≡ rest ++ id ∷ [] → next ≡ rest ++ child_ids v → tree_at ns id ≡ node_tree ns v → IsBelow id v
    → suc (total 0 ns next) ≤ total 0 ns items
turn-smaller ns items rest next id v b was new stands below = smaller 0 ns items rest id 0 0 (0 + total 0 ns items) b refl (omega arith) was v stands below next new

pub turn-below : (ns : List Node) (items rest next : List ℕ) (id : ℕ) (v : Node) → Below (length ns) items → items ≡ rest ++ id ∷ [] → next ≡ rest ++ child_ids v → tree_at ns id ≡ node_tree ns v → IsBelow id v → Below (length ns) next
turn-below ns items rest next id v b was new stands below = still-below 0 ns items rest id 0 0 (0 + total 0 ns items) b refl (omega arith) was v stands below next new

pub at-most-left : (a b r n : ℕ) → r ≡ max a b → r ≤ n → a ≤ n
at-most-left a b r n e h = omega (arith, e, h)

pub at-most-right : (a b c r n : ℕ) → r ≡ max a b → b ≡ c → r ≤ n → c ≤ n
at-most-right a b c r n e d h = omega (arith, e, d, h)

pub new-is : (n : ℕ) (ty : TypeTree) (t : Nameless) (x : Chars) → x ≡ replicate (suc n) 116 → IsShort n t → nameless_has_free x ty t ≡ false
new-is n ty t x e h = ap (λ y. nameless_has_free y ty t) e ∙ short-new n ty t h

pub shorter : (n m : ℕ) (t : Nameless) → n ≤ m → IsShort n t → IsShort m t
shorter n m (nameless_free x ty) l h = omega (arith, l, h)
shorter n m (nameless_bound i) l h = tt
shorter n m (nameless_loose x) l h = tt
shorter n m (nameless_constant c ts) l h = tt
shorter n m (nameless_application f a) l h = (shorter n m f l h.0, shorter n m a l h.1)
shorter n m (nameless_abstraction ty b) l h = shorter n m b l h

-- a node and the nodes of its type, up to the bound
pub one-type : (m k c whole : ℕ) (t : TypeTree) → whole ≡ 1 + type_nodes t → k ≡ type_size t → c ≡ min (k + 1) m → c ≡ min whole m
one-type m k c whole t count size e =
    let same : k + 1 ≡ whole = omega (arith, count, size, size-nodes t) in e ∙ ap (λ j. min j m) same

-- a free variable of the whole term
pub not-long : (floor : ℕ) (x : Chars) (t : TypeTree) → length x ≤ floor → variable_count floor x t ≡ 1 + type_nodes t
not-long floor x t l = ap (λ b. if b then 1 else 1 + type_nodes t) (less-not floor (length x) l)

-- ---- what is known before a walk

-- over the least floor there are no more nodes
floor-least : (t : Nameless) → nodes_over 0 t ≤ nodes t
floor-least (nameless_free x ty) = either (nat_lt 0 (length x))
  where
    either : (c : Bool) → (if c then 1 else 1 + type_nodes ty) ≤ 1 + type_nodes ty
    either true = omega arith
    either false = omega arith
floor-least (nameless_bound i) = omega arith
floor-least (nameless_loose x) = omega arith
floor-least (nameless_constant c ts) = omega arith
floor-least (nameless_application f a) = let h = floor-least f in let k = floor-least a in omega (arith, h, k)
floor-least (nameless_abstraction ty b) = let h = floor-least b in omega (arith, h)

pub many-nodes : (most : ℕ) (t : Nameless) (o : Option ℕ) → Counts most (nodes_over 0 t) o → o ≡ None → most < nodes t
many-nodes most t o h e =
    let k : most < nodes_over 0 t = subst (Counts most (nodes_over 0 t)) e h in
    let l = floor-least t in omega (arith, k, l)

-- the greatest length of a name, as a store knows it
pub longest-short : (n : ℕ) (t : Nameless) → longest_free t ≤ n → IsShort n t
longest-short n (nameless_free x ty) h = h
longest-short n (nameless_bound i) h = tt
longest-short n (nameless_loose x) h = tt
longest-short n (nameless_constant c ts) h = tt
longest-short n (nameless_application f a) h = (longest-short n f (omega (arith, h)), longest-short n a (omega (arith, h)))
longest-short n (nameless_abstraction ty b) h = longest-short n b h
