-- What ids stand for, as a store grows.
use Rattle.std.proofs.Common.{◌≡◌, ℕ, zero, suc, ◌+◌, ◌<◌, ◌≤◌, List, [], ◌∷◌, ◌++◌, length, slice_get, Some, refl, ap, sym, ◌∙◌, subst, arith, get_or, length-append, append_assoc, rules, ◌⊎◌, inl, inr}
use Rattle.std.proofs.lemmas.Grind.{common_steps}
use Rattle.std.proofs.lemmas.Bool.{cases_lt}
use Rattle.std.proofs.lemmas.List.{get_or_append_left}
use Rattle.std.proofs.Math.Seq.{get_or-append_seam}
use Rattle.std.proofs.lemmas.Option.{same_Some, none-some, slice_get-get_or, get_or_from_slice_get, slice_get_within}
use Rattle.lt_store.specs.declared.node.Node.{Node}
use Rattle.lt_store.specs.declared.node.Node.TheVariants.{Free, Bound, Const, App, Lam}
use Rattle.lt_nameless.specs.Nameless.{Nameless, nameless_free, nameless_bound, nameless_loose, nameless_constant, nameless_application, nameless_abstraction}
use Rattle.lt_store.specs.Trees.{nth_tree, tree_of, trees_after, tree_at, IsBelow, IsGrounded, Extends, Makes, node_tree, tree_size}

pub trees_after-append : (ts : List Nameless) (ms ns : List Node) → trees_after ts (ms ++ ns) ≡ trees_after (trees_after ts ms) ns
trees_after-append ts [] ns = refl
trees_after-append ts (m ∷ ms) ns = trees_after-append (ts ++ tree_of ts m ∷ []) ms ns

pub length-trees_after : (ts : List Nameless) (ns : List Node) → length (trees_after ts ns) ≡ length ts + length ns
length-trees_after ts [] = omega arith
length-trees_after ts (n ∷ ns) = omega (arith, length-trees_after (ts ++ tree_of ts n ∷ []) ns, length-append ts (tree_of ts n ∷ []))

-- trees that are there stay
pub nth_tree-trees_after : (ts : List Nameless) (ns : List Node) (i : ℕ) → i < length ts → nth_tree (trees_after ts ns) i ≡ nth_tree ts i
nth_tree-trees_after ts [] i h = refl
nth_tree-trees_after ts (n ∷ ns) i h =
    nth_tree-trees_after (ts ++ tree_of ts n ∷ []) ns i (omega (arith, length-append ts (tree_of ts n ∷ [])))
    ∙ get_or_append_left ts (tree_of ts n ∷ []) (nameless_bound 0) i h

tree_of-kept : (ts us : List Nameless) (n : Node) → IsBelow (length ts) n → ((i : ℕ) → i < length ts → nth_tree us i ≡ nth_tree ts i) → tree_of us n ≡ tree_of ts n
tree_of-kept ts us (Free n t) h kept = refl
tree_of-kept ts us (Bound i) h kept = refl
tree_of-kept ts us (Const n t) h kept = refl
tree_of-kept ts us (App f a) h kept = ap (λ x. nameless_application x (nth_tree us a)) (kept f h.0) ∙ ap (nameless_application (nth_tree ts f)) (kept a h.1)
tree_of-kept ts us (Lam t b) h kept = ap (nameless_abstraction t) (kept b h)

nth_tree-node : (ts : List Nameless) (ns : List Node) (i : ℕ) (n : Node) → slice_get ns i ≡ Some n → IsBelow (length ts + i) n
    → nth_tree (trees_after ts ns) (length ts + i) ≡ tree_of (trees_after ts ns) n
nth_tree-node ts [] i n is below = absurd (none-some n is)
nth_tree-node ts (m ∷ ns) zero n is below =
    let e : m ≡ n = same_Some m n is in
    let below-m : IsBelow (length ts) m = subst (λ k. IsBelow k m) (omega arith) (subst (IsBelow (length ts + 0)) (sym e) below) in
    let us = ts ++ tree_of ts m ∷ [] in
    let here : nth_tree (trees_after us ns) (length ts + 0) ≡ tree_of ts m =
    ap (nth_tree (trees_after us ns)) (omega arith)
    ∙ nth_tree-trees_after us ns (length ts) (omega (arith, length-append ts (tree_of ts m ∷ [])))
    ∙ get_or-append_seam ts (tree_of ts m) [] (nameless_bound 0) in
    here ∙ sym (tree_of-kept ts (trees_after us ns) m below-m (λ i h. nth_tree-trees_after ts (m ∷ ns) i h)) ∙ ap (tree_of (trees_after us ns)) e
nth_tree-node ts (m ∷ ns) (suc i) n is below =
    let us = ts ++ tree_of ts m ∷ [] in
    let e : length us + i ≡ length ts + suc i = omega (arith, length-append ts (tree_of ts m ∷ [])) in
    ap (nth_tree (trees_after us ns)) (sym e) ∙ nth_tree-node us ns i n is (subst (λ k. IsBelow k n) (sym e) below)

tree_of-trees : (ns : List Node) (n : Node) → tree_of (trees_after [] ns) n ≡ node_tree ns n
unfolding tree_at
tree_of-trees ns (Free n t) = refl
tree_of-trees ns (Bound i) = refl
tree_of-trees ns (Const n t) = refl
tree_of-trees ns (App f a) = refl
tree_of-trees ns (Lam t b) = refl

-- an id stands for its node
pub tree_at-node : (ns : List Node) (i : ℕ) (n : Node) → slice_get ns i ≡ Some n → IsBelow i n → tree_at ns i ≡ node_tree ns n
unfolding tree_at
tree_at-node ns i n is below =
    ap (nth_tree (trees_after [] ns)) (omega arith) ∙ nth_tree-node [] ns i n is (subst (λ k. IsBelow k n) (omega arith) below) ∙ tree_of-trees ns n

-- what an id stands for never changes
pub tree_at-extends : (old new : List Node) (i : ℕ) → Extends old new → i < length old → tree_at new i ≡ tree_at old i
unfolding tree_at
tree_at-extends old new i e h =
    ap (λ l. nth_tree (trees_after [] l) i) e.is
    ∙ ap (λ ts. nth_tree ts i) (trees_after-append [] old e.more)
    ∙ nth_tree-trees_after (trees_after [] old) e.more i (omega (arith, length-trees_after [] old))

pub length-extends : (old new : List Node) → Extends old new → length old ≤ length new
length-extends old new e = e.grows

pub extends_same : (ns : List Node) → Extends ns ns
extends_same ns = record { more = []; is = search (rules, common_steps); grows = omega arith }

pub node_tree-extends : (old new : List Node) (n : Node) → Extends old new → IsBelow (length old) n → node_tree new n ≡ node_tree old n
node_tree-extends old new (Free n t) e h = refl
node_tree-extends old new (Bound i) e h = refl
node_tree-extends old new (Const n t) e h = refl
node_tree-extends old new (App f a) e h =
    ap (λ x. nameless_application x (tree_at new a)) (tree_at-extends old new f e h.0) ∙ ap (nameless_application (tree_at old f)) (tree_at-extends old new a e h.1)
node_tree-extends old new (Lam t b) e h = ap (nameless_abstraction t) (tree_at-extends old new b e h)

-- one more node
pub extends_push : (old new : List Node) (n : Node) → new ≡ old ++ n ∷ [] → Extends old new
extends_push old new n e = record { more = n ∷ []; is = e; grows = omega (arith, ap length e, length-append old (n ∷ [])) }

pub extends_on : (a b c : List Node) → Extends a b → Extends b c → Extends a c
extends_on a b c p q = record { more = p.more ++ q.more; is = q.is ∙ ap (λ l. l ++ q.more) p.is ∙ append_assoc a p.more q.more; grows = omega (arith, p.grows, q.grows) }

-- what `add` of a store owes
pub makes : (old new : List Node) (n : Node) (id : ℕ) → Extends old new → IsBelow (length old) n → slice_get new id ≡ Some n → IsBelow id n → Makes old new n id
makes old new n id e h at below = record {
  extends = e;
  made = at;
  within = slice_get_within new id n at;
  below = below;
  stands = tree_at-node new id n at below ∙ node_tree-extends old new n e h;
}

-- what `view` of a store owes
pub stands_at : (ns : List Node) (i : ℕ) (n : Node) → IsGrounded ns → slice_get ns i ≡ Some n → tree_at ns i ≡ node_tree ns n
stands_at ns i n g at = tree_at-node ns i n at (g i n at)

pub makes_push : (old new : List Node) (n : Node) (id : ℕ) → new ≡ old ++ n ∷ [] → id ≡ length old → IsBelow (length old) n → Makes old new n id
makes_push old new n id e at h =
    makes old new n id (extends_push old new n e) h
    (slice_get-get_or new id n (omega (arith, ap length e, length-append old (n ∷ []))) ∙ ap Some (ap (λ k. get_or k id n) e ∙ ap (λ k. get_or (old ++ n ∷ []) k n) at ∙ get_or-append_seam old n [] n))
    (subst (λ k. IsBelow k n) (sym at) h)

-- a node may be added behind its children
pub grounded_push : (ns : List Node) (n : Node) → IsGrounded ns → IsBelow (length ns) n → IsGrounded (ns ++ n ∷ [])
grounded_push ns n g h i m at = by (cases_lt i (length ns))
  where
    by : (i < length ns) ⊎ (length ns ≤ i) → IsBelow i m
    by (inl l) = g i m (sym (slice_get-get_or (ns ++ n ∷ []) i n (omega (arith, length-append ns (n ∷ []))) ∙ ap Some (get_or_append_left ns (n ∷ []) n i l) ∙ sym (slice_get-get_or ns i n l)) ∙ at)
    by (inr l) =
        let within : i < length (ns ++ n ∷ []) = slice_get_within (ns ++ n ∷ []) i m at in
        let here : i ≡ length ns = omega (arith, length-append ns (n ∷ [])) in
        let same : m ≡ n = same_Some m n (sym at ∙ slice_get-get_or (ns ++ n ∷ []) i n within ∙ ap (λ k. Some (get_or (ns ++ n ∷ []) k n)) here ∙ ap Some (get_or-append_seam ns n [] n)) in
        subst (IsBelow i) (sym same) (subst (λ k. IsBelow k n) (sym here) h)

-- an earlier node is that of the later store
pub node_back : (old new : List Node) (i : ℕ) (n : Node) → Extends old new → i < length old → slice_get new i ≡ Some n → slice_get old i ≡ Some n
node_back old new i n e h at =
    slice_get-get_or old i n h ∙ ap Some (sym (get_or_append_left old e.more n i h) ∙ ap (λ l. get_or l i n) (sym e.is) ∙ get_or_from_slice_get new i n n at)

pub IsBelow-wider : (i l : ℕ) (n : Node) → i ≤ l → IsBelow i n → IsBelow l n
IsBelow-wider i l (Free n t) h b = tt
IsBelow-wider i l (Bound k) h b = tt
IsBelow-wider i l (Const n us) h b = tt
IsBelow-wider i l (App f a) h b = (omega arith, omega arith)
IsBelow-wider i l (Lam t k) h b = omega arith

pub stands_back : (old new : List Node) (i : ℕ) (n : Node) → Extends old new → i < length old → IsBelow i n → tree_at new i ≡ node_tree new n → tree_at old i ≡ node_tree old n
stands_back old new i n e h below s =
    sym (tree_at-extends old new i e h) ∙ s ∙ node_tree-extends old new n e (IsBelow-wider i (length old) n (omega arith) below)

pub tree_size-positive : (t : Nameless) → 0 < tree_size t
tree_size-positive (nameless_free n t) = omega arith
tree_size-positive (nameless_bound i) = omega arith
tree_size-positive (nameless_loose x) = omega arith
tree_size-positive (nameless_constant n us) = omega arith
tree_size-positive (nameless_application f a) = omega arith
tree_size-positive (nameless_abstraction t b) = omega arith

-- a node that was read, and is m
pub node_read : (ns : List Node) (x : ℕ) (m r : Node) → x < length ns → m ≡ r → r ≡ get_or ns x r → slice_get ns x ≡ Some m
node_read ns x m r h e is = slice_get-get_or ns x r h ∙ ap Some (sym is) ∙ ap Some (sym e)
