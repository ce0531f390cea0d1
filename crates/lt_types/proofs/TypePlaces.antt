-- What stands at each place of a type's nodes.
use Rattle.std.proofs.Common.{◌≡◌, ℕ, ◌+◌, ◌<◌, ◌≤◌, List, [], ◌∷◌, ◌++◌, length, take, map, slice_get, Some, refl, sym, ◌∙◌, ap, subst, arith, append_assoc, append-nil, length-append}
use Rattle.std.proofs.Math.Seq.{take-append_seam}
use Rattle.lt_types.specs.declared.ty.TyNode.{TyNode}
use Rattle.lt_types.specs.declared.ty.TyNode.TheVariants.{Var, Con}
use Rattle.lt_definitions.specs.Types.{TypeTree, TypeTrees, type_variable, type_constructor, no_types, type_and, row, listed}
use Rattle.lt_types.specs.Layout.{below, sizes, type_size, roots, type_nodes, row_nodes, forest}
use Rattle.lt_types.proofs.Places.{AllPlaces, places-append, at-place}
use Rattle.lt_types.proofs.LayoutLemmas.{row-listed, length-type_nodes, length-row_nodes, forest-type_nodes, forest-append}

-- the last type of a list, or the one before it
abbrev pub last_after : TypeTree → List TypeTree → TypeTree
last_after t [] = t
last_after t (u ∷ ts) = last_after u ts

-- the type whose root stands at a place
abbrev pub type_at : List TyNode → ℕ → TypeTree
type_at nodes at = last_after (type_variable []) (forest [] (take (at + 1) nodes))

-- the type that a node makes of those at its places
abbrev pub tree_of : List TyNode → TyNode → TypeTree
tree_of nodes (Var x) = type_variable x
tree_of nodes (Con c places) = type_constructor c (row (map (type_at nodes) places))

-- all places are below a bound
abbrev pub AreBelow : ℕ → List ℕ → Type 0
AreBelow n [] = Unit {0}
AreBelow n (k ∷ places) = (k < n) × AreBelow n places

abbrev pub places_of : TyNode → List ℕ
places_of (Var x) = []
places_of (Con c places) = places

-- the node at a place makes the type there
pub record IsPlace (nodes : List TyNode) (at : ℕ) (n : TyNode) : Type 0 where
  pub tree : type_at nodes at ≡ tree_of nodes n
  pub within : AreBelow (length nodes) (places_of n)

last_after-seam : (t : TypeTree) (ts : List TypeTree) (u : TypeTree) → last_after t (ts ++ u ∷ []) ≡ u
last_after-seam t [] u = refl
last_after-seam t (s ∷ ts) u = last_after-seam s ts u

-- the type that lies between other nodes stands at its root
type_at-root : (nodes front back : List TyNode) (from : ℕ) (t : TypeTree) → from ≡ length front → nodes ≡ front ++ (type_nodes from t ++ back) → type_at nodes (from + below t) ≡ t
type_at-root nodes front back from t e h =
    ap (λ k. read (take k nodes)) count
    ∙ ap (λ ns. read (take (length whole) ns)) (h ∙ sym (append_assoc front (type_nodes from t) back))
    ∙ ap read (take-append_seam whole back)
    ∙ ap (last_after (type_variable [])) made
    ∙ last_after-seam (type_variable []) (forest [] front) t
  where
    read : List TyNode → TypeTree
    read ns = last_after (type_variable []) (forest [] ns)

    whole : List TyNode
    whole = front ++ type_nodes from t

    count : (from + below t) + 1 ≡ length whole
    count = omega (arith, e, length-append front (type_nodes from t), length-type_nodes from t)

    made : forest [] whole ≡ forest [] front ++ t ∷ []
    made = forest-append [] front (type_nodes from t) ∙ ap (forest (forest [] front)) (sym (append-nil (type_nodes from t))) ∙ forest-type_nodes from t (forest [] front) []

-- the types of a row that lies between other nodes stand at its roots
types_at-roots : (nodes front back : List TyNode) (from : ℕ) (ts : TypeTrees) → from ≡ length front → nodes ≡ front ++ (row_nodes from ts ++ back) → map (type_at nodes) (roots from ts) ≡ listed ts
types_at-roots nodes front back from no_types e h = refl
types_at-roots nodes front back from (type_and t ts) e h =
    λ i. type_at-root nodes front (row_nodes (from + (below t + 1)) ts ++ back) from t e split i
    ∷ types_at-roots nodes (front ++ type_nodes from t) back (from + (below t + 1)) ts count (split ∙ sym (append_assoc front (type_nodes from t) (row_nodes (from + (below t + 1)) ts ++ back))) i
  where
    split : nodes ≡ front ++ (type_nodes from t ++ (row_nodes (from + (below t + 1)) ts ++ back))
    split = h ∙ ap (λ ns. front ++ ns) (append_assoc (type_nodes from t) (row_nodes (from + (below t + 1)) ts) back)

    count : from + (below t + 1) ≡ length (front ++ type_nodes from t)
    count = omega (arith, e, length-append front (type_nodes from t), length-type_nodes from t)

roots-below : (n from : ℕ) (ts : TypeTrees) → from + sizes ts ≤ n → AreBelow n (roots from ts)
roots-below n from no_types h = tt
roots-below n from (type_and t ts) h = (omega arith, roots-below n (from + type_size t) ts (omega arith))

-- the nodes from a place on make the types there
abbrev ArePlaces : List TyNode → ℕ → List TyNode → Type 0
ArePlaces nodes from ns = AllPlaces (IsPlace nodes) from ns

-- the root of a constructor stands behind its arguments
split : (nodes front back : List TyNode) (from : ℕ) (c : List ℕ) (ts : TypeTrees) → nodes ≡ front ++ (type_nodes from (type_constructor c ts) ++ back) → nodes ≡ front ++ (row_nodes from ts ++ (Con c (roots from ts) ∷ back))
split nodes front back from c ts h = h ∙ ap (λ ns. front ++ ns) (append_assoc (row_nodes from ts) (Con c (roots from ts) ∷ []) back)

root : (nodes front back : List TyNode) (from : ℕ) (c : List ℕ) (ts : TypeTrees) → from ≡ length front → nodes ≡ front ++ (type_nodes from (type_constructor c ts) ++ back) → IsPlace nodes (from + length (row_nodes from ts)) (Con c (roots from ts))
root nodes front back from c ts e h = record {
  tree = ap (λ k. type_at nodes (from + k)) (length-row_nodes from ts) ∙ type_at-root nodes front back from (type_constructor c ts) e h
      ∙ ap (type_constructor c) (sym (ap row (types_at-roots nodes front (Con c (roots from ts) ∷ back) from ts e (split nodes front back from c ts h)) ∙ row-listed ts));
  within = roots-below (length nodes) from ts (omega (arith, ap length (split nodes front back from c ts h), length-append front (row_nodes from ts ++ (Con c (roots from ts) ∷ back)), length-append (row_nodes from ts) (Con c (roots from ts) ∷ back), length-row_nodes from ts, e));
}

mutual
  type-places : (nodes front back : List TyNode) (from : ℕ) (t : TypeTree) → from ≡ length front → nodes ≡ front ++ (type_nodes from t ++ back) → ArePlaces nodes from (type_nodes from t)
  type-places nodes front back from (type_variable x) e h =
      let same : from ≡ from + 0 = omega arith in
      (record { tree = ap (type_at nodes) same ∙ type_at-root nodes front back from (type_variable x) e h; within = tt }, tt)
  type-places nodes front back from (type_constructor c ts) e h =
      places-append (IsPlace nodes) from (from + length (row_nodes from ts)) (row_nodes from ts) (Con c (roots from ts) ∷ []) refl (row-places nodes front (Con c (roots from ts) ∷ back) from ts e (split nodes front back from c ts h))
      (root nodes front back from c ts e h, tt)

  row-places : (nodes front back : List TyNode) (from : ℕ) (ts : TypeTrees) → from ≡ length front → nodes ≡ front ++ (row_nodes from ts ++ back) → ArePlaces nodes from (row_nodes from ts)
  row-places nodes front back from no_types e h = tt
  row-places nodes front back from (type_and t ts) e h =
      let apart : nodes ≡ front ++ (type_nodes from t ++ (row_nodes (from + (below t + 1)) ts ++ back)) = h ∙ ap (λ ns. front ++ ns) (append_assoc (type_nodes from t) (row_nodes (from + (below t + 1)) ts) back) in
      let count : from + (below t + 1) ≡ length (front ++ type_nodes from t) = omega (arith, e, length-append front (type_nodes from t), length-type_nodes from t) in
      places-append (IsPlace nodes) from (from + (below t + 1)) (type_nodes from t) (row_nodes (from + (below t + 1)) ts) (omega (arith, length-type_nodes from t)) (type-places nodes front (row_nodes (from + (below t + 1)) ts ++ back) from t e apart)
      (row-places nodes (front ++ type_nodes from t) back (from + (below t + 1)) ts count (apart ∙ sym (append_assoc front (type_nodes from t) (row_nodes (from + (below t + 1)) ts ++ back))))

-- the node at a place of a type
pub place : (t : TypeTree) (at : ℕ) (n : TyNode) → slice_get (type_nodes 0 t) at ≡ Some n → IsPlace (type_nodes 0 t) at n
place t at n e =
    let none : type_nodes 0 t ≡ [] ++ (type_nodes 0 t ++ []) = sym (append-nil (type_nodes 0 t)) in
    let here : 0 + at ≡ at = omega arith in
    subst (λ k. IsPlace (type_nodes 0 t) k n) here (at-place (IsPlace (type_nodes 0 t)) (type_nodes 0 t) 0 at n (type-places (type_nodes 0 t) [] [] 0 t refl none) e)

-- at the root there is the type
pub type_at-last : (t : TypeTree) → type_at (type_nodes 0 t) (below t) ≡ t
type_at-last t =
    let e : below t ≡ 0 + below t = omega arith in
    ap (type_at (type_nodes 0 t)) e ∙ type_at-root (type_nodes 0 t) [] [] 0 t refl (sym (append-nil (type_nodes 0 t)))
