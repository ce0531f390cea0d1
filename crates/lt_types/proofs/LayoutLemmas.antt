-- What is read of nodes that are laid out.
use Rattle.std.proofs.Common.{◌≡◌, ℕ, zero, suc, ◌+◌, ◌-◌, ◌<◌, ◌≤◌, List, [], ◌∷◌, ◌++◌, length, take, drop, get_or, refl, sym, ◌∙◌, ap, subst, arith, append_assoc, append-nil, length-append}
use Rattle.std.proofs.Math.Seq.{take-append_seam, drop-append_seam}
use Rattle.std.proofs.lemmas.List.{take_more}
use Rattle.std.proofs.Math.Seq.{take-length, take-append-add, drop-append-add}
use Rattle.lt_types.specs.declared.ty.TyNode.{TyNode}
use Rattle.lt_types.specs.declared.ty.TyNode.TheVariants.{Var, Con}
use Rattle.lt_definitions.specs.Types.{TypeTree, TypeTrees, Chars, type_variable, type_constructor, no_types, type_and, row, listed}
use Rattle.lt_types.specs.Layout.{sizes, type_size, roots, type_nodes, row_nodes, grow, HasRoom, forest, first, type_of_nodes}

pub row-listed : (ts : TypeTrees) → row (listed ts) ≡ ts
row-listed no_types = refl
row-listed (type_and t ts) = ap (type_and t) (row-listed ts)

pub length-roots : (from : ℕ) (ts : TypeTrees) → length (roots from ts) ≡ length (listed ts)
length-roots from no_types = refl
length-roots from (type_and t ts) = ap (λ n. suc n) (length-roots (from + type_size t) ts)

mutual
  pub length-type_nodes : (from : ℕ) (t : TypeTree) → length (type_nodes from t) ≡ type_size t
  length-type_nodes from (type_variable x) = omega arith
  length-type_nodes from (type_constructor c ts) = simp length-append (omega (arith, length-row_nodes from ts))

  pub length-row_nodes : (from : ℕ) (ts : TypeTrees) → length (row_nodes from ts) ≡ sizes ts
  length-row_nodes from no_types = refl
  length-row_nodes from (type_and t ts) =
      simp length-append (omega (arith, length-type_nodes from t, length-row_nodes (from + type_size t) ts))

-- a constructor after its arguments
grow-row_nodes : (from : ℕ) (ts : TypeTrees) (c : Chars) (before : List TypeTree) → grow (before ++ listed ts) (Con c (roots from ts)) ≡ before ++ type_constructor c ts ∷ []
grow-row_nodes from ts c before =
    let n : length (before ++ listed ts) - length (roots from ts) ≡ length before =
    simp (length-append, length-roots) (omega arith)
    in rw (n, take-append_seam, drop-append_seam, row-listed) refl

mutual
  pub forest-type_nodes : (from : ℕ) (t : TypeTree) (before : List TypeTree) (ns : List TyNode) → forest before (type_nodes from t ++ ns) ≡ forest (before ++ t ∷ []) ns
  forest-type_nodes from (type_variable x) before ns = refl
  forest-type_nodes from (type_constructor c ts) before ns =
      rw append_assoc (forest-row_nodes from ts before (Con c (roots from ts) ∷ ns) ∙ ap (λ s. forest s ns) (grow-row_nodes from ts c before))

  pub forest-row_nodes : (from : ℕ) (ts : TypeTrees) (before : List TypeTree) (ns : List TyNode) → forest before (row_nodes from ts ++ ns) ≡ forest (before ++ listed ts) ns
  forest-row_nodes from no_types before ns = rw append-nil refl
  forest-row_nodes from (type_and t ts) before ns =
      rw append_assoc (forest-type_nodes from t before (row_nodes (from + type_size t) ts ++ ns) ∙ forest-row_nodes (from + type_size t) ts (before ++ t ∷ []) ns ∙ ap (λ s. forest s ns) (append_assoc before (t ∷ []) (listed ts)))

pub forest-whole : (from : ℕ) (t : TypeTree) → forest [] (type_nodes from t) ≡ t ∷ []
forest-whole from t = rw (← append-nil (type_nodes from t)) (forest-type_nodes from t [] [])

-- what is laid out is read again
pub type_of_nodes-type_nodes : (from : ℕ) (t : TypeTree) → type_of_nodes (type_nodes from t) ≡ t
type_of_nodes-type_nodes from t = ap first (forest-whole from t)

pub forest-append : (before : List TypeTree) (xs ys : List TyNode) → forest before (xs ++ ys) ≡ forest (forest before xs) ys
forest-append before [] ys = refl
forest-append before (n ∷ xs) ys = forest-append (grow before n) xs ys

-- one more node
pub forest-more : (nodes : List TyNode) (i : ℕ) (d : TyNode) → i < length nodes → forest [] (take (i + 1) nodes) ≡ grow (forest [] (take i nodes)) (get_or nodes i d)
forest-more nodes i d h = rw (take_more nodes i d h) (forest-append [] (take i nodes) (get_or nodes i d ∷ []))

abbrev pub Rooms : List TypeTree → List TyNode → Type 0
Rooms before [] = Unit {0}
Rooms before (n ∷ ns) = HasRoom before n × Rooms (grow before n) ns

mutual
  pub rooms-type_nodes : (from : ℕ) (t : TypeTree) (before : List TypeTree) (ns : List TyNode) → Rooms (before ++ t ∷ []) ns → Rooms before (type_nodes from t ++ ns)
  rooms-type_nodes from (type_variable x) before ns r = (tt, r)
  rooms-type_nodes from (type_constructor c ts) before ns r =
      rw append_assoc (rooms-row_nodes from ts before (Con c (roots from ts) ∷ ns) (simp (length-append, length-roots) (omega arith), rw (grow-row_nodes from ts c before) r))

  pub rooms-row_nodes : (from : ℕ) (ts : TypeTrees) (before : List TypeTree) (ns : List TyNode) → Rooms (before ++ listed ts) ns → Rooms before (row_nodes from ts ++ ns)
  rooms-row_nodes from no_types before ns r = rw append-nil at r
  rooms-row_nodes from (type_and t ts) before ns r =
      rw append_assoc (rooms-type_nodes from t before (row_nodes (from + type_size t) ts ++ ns) (rooms-row_nodes (from + type_size t) ts (before ++ t ∷ []) ns (rw append_assoc r)))

pub rooms-whole : (from : ℕ) (t : TypeTree) → Rooms [] (type_nodes from t)
rooms-whole from t = rw (← append-nil (type_nodes from t)) (rooms-type_nodes from t [] [] tt)

pub room-at : (before : List TypeTree) (nodes : List TyNode) (i : ℕ) (d : TyNode) → Rooms before nodes → i < length nodes → HasRoom (forest before (take i nodes)) (get_or nodes i d)
room-at before [] i d r h = absurd (omega arith)
room-at before (n ∷ ns) zero d r h = r.0
room-at before (n ∷ ns) (suc i) d r h = room-at (grow before n) ns i d r.1 (omega arith)

-- the nodes that hold a type, and their number
pub laid : (nodes : List TyNode) (t : TypeTree) → nodes ≡ type_nodes 0 (type_of_nodes nodes) → type_of_nodes nodes ≡ t → nodes ≡ type_nodes 0 t
laid nodes t h e = h ∙ ap (type_nodes 0) e

pub laid-count : (nodes : List TyNode) (t : TypeTree) → nodes ≡ type_nodes 0 (type_of_nodes nodes) → type_of_nodes nodes ≡ t → length nodes ≡ type_size t
laid-count nodes t h e = ap length (laid nodes t h e) ∙ length-type_nodes 0 t

-- nodes that are laid out hold their type
pub holds : (nodes : List TyNode) (t : TypeTree) → nodes ≡ type_nodes 0 t → type_of_nodes nodes ≡ t
holds nodes t e = ap type_of_nodes e ∙ type_of_nodes-type_nodes 0 t

pub well_laid : (nodes : List TyNode) (t : TypeTree) → nodes ≡ type_nodes 0 t → nodes ≡ type_nodes 0 (type_of_nodes nodes)
well_laid nodes t e = e ∙ ap (type_nodes 0) (sym (holds nodes t e))

-- a node grows the last types of a list alone
pub grow-under : (under before : List TypeTree) (n : TyNode) → HasRoom before n → grow (under ++ before) n ≡ under ++ grow before n
grow-under under before (Var x) r = append_assoc under before (type_variable x ∷ [])
grow-under under before (Con c ids) r =
    let n : length (under ++ before) - length ids ≡ length under + (length before - length ids) =
    simp length-append (omega arith)
    in rw (n, take-append-add, drop-append-add) (append_assoc under (take (length before - length ids) before) (type_constructor c (row (drop (length before - length ids) before)) ∷ []))

-- the node at a place of a type: there is room for it, and it makes the next types
pub record IsStep (nodes : List TyNode) (i : ℕ) (n : TyNode) : Type 0 where
  pub room : HasRoom (forest [] (take i nodes)) n
  pub next : forest [] (take (i + 1) nodes) ≡ grow (forest [] (take i nodes)) n

pub step : (nodes : List TyNode) (t : TypeTree) (i : ℕ) (n : TyNode) → nodes ≡ type_nodes 0 t → i < length nodes → n ≡ get_or nodes i n → IsStep nodes i n
step nodes t i n h lt at = record {
  room = subst (HasRoom (forest [] (take i nodes))) (sym at) (room-at [] nodes i n (subst (Rooms []) (sym h) (rooms-whole 0 t)) lt);
  next = forest-more nodes i n lt ∙ ap (grow (forest [] (take i nodes))) (sym at);
}

-- at the end of a type's nodes there is the type
pub whole : (nodes : List TyNode) (t : TypeTree) (i : ℕ) → nodes ≡ type_nodes 0 t → i ≤ length nodes → length nodes ≤ i → forest [] (take i nodes) ≡ t ∷ []
whole nodes t i h up down =
    let e : i ≡ length nodes = omega arith in
    ap (forest []) (ap (λ k. take k nodes) e ∙ take-length nodes ∙ h) ∙ forest-whole 0 t

pub room-under : (under before : List TypeTree) (n : TyNode) → HasRoom before n → HasRoom (under ++ before) n
room-under under before (Var x) r = tt
room-under under before (Con c ids) r = simp length-append (omega arith)

-- types are compared by their nodes
pub same-nodes : (s t : TypeTree) → type_nodes 0 s ≡ type_nodes 0 t → s ≡ t
same-nodes s t e = sym (type_of_nodes-type_nodes 0 s) ∙ ap type_of_nodes e ∙ type_of_nodes-type_nodes 0 t
