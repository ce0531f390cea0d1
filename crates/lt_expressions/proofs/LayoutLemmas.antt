-- What is read of nodes that are laid out.
use Rattle.std.proofs.Common.{◌≡◌, ℕ, zero, suc, ◌+◌, ◌-◌, ◌<◌, ◌≤◌, List, [], ◌∷◌, ◌++◌, length, take, drop, get_or, refl, sym, ◌∙◌, ap, subst, arith, append_assoc, append-nil, length-append}
use Rattle.std.proofs.Math.Seq.{take-append_seam, drop-append_seam}
use Rattle.std.proofs.lemmas.List.{take_more}
use Rattle.std.proofs.Math.Seq.{take-length, take-append-add, drop-append-add}
use Rattle.lt_expressions.specs.declared.rel.RelNode.{RelNode}
use Rattle.lt_expressions.specs.declared.rel.RelNode.TheVariants.{Var, Eq, Con}
use Rattle.lt_definitions.specs.Types.{Chars, TypeTree}
use Rattle.lt_transport_definitions.specs.Relations.{Relation, Relations, relation_variable, equality, constructed, no_relations, relation_and, relation_row, relation_list}
use Rattle.lt_expressions.specs.Layout.{sizes, relation_size, roots, relation_nodes, row_nodes, grow, HasRoom, forest, first, relation_of_nodes}

pub row-listed : (ts : Relations) → relation_row (relation_list ts) ≡ ts
row-listed no_relations = refl
row-listed (relation_and t ts) = ap (relation_and t) (row-listed ts)

pub list-row : (rs : List Relation) → relation_list (relation_row rs) ≡ rs
list-row [] = refl
list-row (r ∷ rs) = ap (λ ss. r ∷ ss) (list-row rs)

pub length-roots : (from : ℕ) (ts : Relations) → length (roots from ts) ≡ length (relation_list ts)
length-roots from no_relations = refl
length-roots from (relation_and t ts) = ap (λ n. suc n) (length-roots (from + relation_size t) ts)

mutual
  pub length-relation_nodes : (from : ℕ) (t : Relation) → length (relation_nodes from t) ≡ relation_size t
  length-relation_nodes from (relation_variable n t) = omega arith
  length-relation_nodes from (equality t) = omega arith
  length-relation_nodes from (constructed c us ts) = simp length-append (omega (arith, length-row_nodes from ts))

  pub length-row_nodes : (from : ℕ) (ts : Relations) → length (row_nodes from ts) ≡ sizes ts
  length-row_nodes from no_relations = refl
  length-row_nodes from (relation_and t ts) =
      simp length-append (omega (arith, length-relation_nodes from t, length-row_nodes (from + relation_size t) ts))

-- a constructor after its arguments
grow-row_nodes : (from : ℕ) (ts : Relations) (c : Chars) (us : List TypeTree) (before : List Relation) → grow (before ++ relation_list ts) (Con c us (roots from ts)) ≡ before ++ constructed c us ts ∷ []
grow-row_nodes from ts c us before =
    let n : length (before ++ relation_list ts) - length (roots from ts) ≡ length before =
    simp (length-append, length-roots) (omega arith)
    in rw (n, take-append_seam, drop-append_seam, row-listed) refl

mutual
  pub forest-relation_nodes : (from : ℕ) (t : Relation) (before : List Relation) (ns : List RelNode) → forest before (relation_nodes from t ++ ns) ≡ forest (before ++ t ∷ []) ns
  forest-relation_nodes from (relation_variable n t) before ns = refl
  forest-relation_nodes from (equality t) before ns = refl
  forest-relation_nodes from (constructed c us ts) before ns =
      rw append_assoc (forest-row_nodes from ts before (Con c us (roots from ts) ∷ ns) ∙ ap (λ s. forest s ns) (grow-row_nodes from ts c us before))

  pub forest-row_nodes : (from : ℕ) (ts : Relations) (before : List Relation) (ns : List RelNode) → forest before (row_nodes from ts ++ ns) ≡ forest (before ++ relation_list ts) ns
  forest-row_nodes from no_relations before ns = rw append-nil refl
  forest-row_nodes from (relation_and t ts) before ns =
      rw append_assoc (forest-relation_nodes from t before (row_nodes (from + relation_size t) ts ++ ns) ∙ forest-row_nodes (from + relation_size t) ts (before ++ t ∷ []) ns ∙ ap (λ s. forest s ns) (append_assoc before (t ∷ []) (relation_list ts)))

pub forest-whole : (from : ℕ) (t : Relation) → forest [] (relation_nodes from t) ≡ t ∷ []
forest-whole from t = rw (← append-nil (relation_nodes from t)) (forest-relation_nodes from t [] [])

-- what is laid out is read again
pub relation_of_nodes-relation_nodes : (from : ℕ) (t : Relation) → relation_of_nodes (relation_nodes from t) ≡ t
relation_of_nodes-relation_nodes from t = ap first (forest-whole from t)

pub forest-append : (before : List Relation) (xs ys : List RelNode) → forest before (xs ++ ys) ≡ forest (forest before xs) ys
forest-append before [] ys = refl
forest-append before (n ∷ xs) ys = forest-append (grow before n) xs ys

-- one more node
pub forest-more : (nodes : List RelNode) (i : ℕ) (d : RelNode) → i < length nodes → forest [] (take (i + 1) nodes) ≡ grow (forest [] (take i nodes)) (get_or nodes i d)
forest-more nodes i d h = rw (take_more nodes i d h) (forest-append [] (take i nodes) (get_or nodes i d ∷ []))

abbrev pub Rooms : List Relation → List RelNode → Type 0
Rooms before [] = Unit {0}
Rooms before (n ∷ ns) = HasRoom before n × Rooms (grow before n) ns

mutual
  pub rooms-relation_nodes : (from : ℕ) (t : Relation) (before : List Relation) (ns : List RelNode) → Rooms (before ++ t ∷ []) ns → Rooms before (relation_nodes from t ++ ns)
  rooms-relation_nodes from (relation_variable n t) before ns r = (tt, r)
  rooms-relation_nodes from (equality t) before ns r = (tt, r)
  rooms-relation_nodes from (constructed c us ts) before ns r =
      rw append_assoc (rooms-row_nodes from ts before (Con c us (roots from ts) ∷ ns) (simp (length-append, length-roots) (omega arith), rw (grow-row_nodes from ts c us before) r))

  pub rooms-row_nodes : (from : ℕ) (ts : Relations) (before : List Relation) (ns : List RelNode) → Rooms (before ++ relation_list ts) ns → Rooms before (row_nodes from ts ++ ns)
  rooms-row_nodes from no_relations before ns r = rw append-nil at r
  rooms-row_nodes from (relation_and t ts) before ns r =
      rw append_assoc (rooms-relation_nodes from t before (row_nodes (from + relation_size t) ts ++ ns) (rooms-row_nodes (from + relation_size t) ts (before ++ t ∷ []) ns (rw append_assoc r)))

pub rooms-whole : (from : ℕ) (t : Relation) → Rooms [] (relation_nodes from t)
rooms-whole from t = rw (← append-nil (relation_nodes from t)) (rooms-relation_nodes from t [] [] tt)

pub room-at : (before : List Relation) (nodes : List RelNode) (i : ℕ) (d : RelNode) → Rooms before nodes → i < length nodes → HasRoom (forest before (take i nodes)) (get_or nodes i d)
room-at before [] i d r h = absurd (omega arith)
room-at before (n ∷ ns) zero d r h = r.0
room-at before (n ∷ ns) (suc i) d r h = room-at (grow before n) ns i d r.1 (omega arith)

-- the nodes that hold an expression, and their number
pub laid : (nodes : List RelNode) (t : Relation) → nodes ≡ relation_nodes 0 (relation_of_nodes nodes) → relation_of_nodes nodes ≡ t → nodes ≡ relation_nodes 0 t
laid nodes t h e = h ∙ ap (relation_nodes 0) e

pub laid-count : (nodes : List RelNode) (t : Relation) → nodes ≡ relation_nodes 0 (relation_of_nodes nodes) → relation_of_nodes nodes ≡ t → length nodes ≡ relation_size t
laid-count nodes t h e = ap length (laid nodes t h e) ∙ length-relation_nodes 0 t

-- nodes that are laid out hold their expression
pub holds : (nodes : List RelNode) (t : Relation) → nodes ≡ relation_nodes 0 t → relation_of_nodes nodes ≡ t
holds nodes t e = ap relation_of_nodes e ∙ relation_of_nodes-relation_nodes 0 t

pub well_laid : (nodes : List RelNode) (t : Relation) → nodes ≡ relation_nodes 0 t → nodes ≡ relation_nodes 0 (relation_of_nodes nodes)
well_laid nodes t e = e ∙ ap (relation_nodes 0) (sym (holds nodes t e))

-- a node grows the last expressions of a list alone
pub grow-under : (under before : List Relation) (n : RelNode) → HasRoom before n → grow (under ++ before) n ≡ under ++ grow before n
grow-under under before (Var n t) r = append_assoc under before (relation_variable n t ∷ [])
grow-under under before (Eq t) r = append_assoc under before (equality t ∷ [])
grow-under under before (Con c us ids) r =
    let n : length (under ++ before) - length ids ≡ length under + (length before - length ids) =
    simp length-append (omega arith)
    in rw (n, take-append-add, drop-append-add) (append_assoc under (take (length before - length ids) before) (constructed c us (relation_row (drop (length before - length ids) before)) ∷ []))

-- the node at a place of an expression: there is room for it, and it makes the next expressions
pub record IsStep (nodes : List RelNode) (i : ℕ) (n : RelNode) : Type 0 where
  pub room : HasRoom (forest [] (take i nodes)) n
  pub next : forest [] (take (i + 1) nodes) ≡ grow (forest [] (take i nodes)) n

pub step : (nodes : List RelNode) (t : Relation) (i : ℕ) (n : RelNode) → nodes ≡ relation_nodes 0 t → i < length nodes → n ≡ get_or nodes i n → IsStep nodes i n
step nodes t i n h lt at = record {
  room = subst (HasRoom (forest [] (take i nodes))) (sym at) (room-at [] nodes i n (subst (Rooms []) (sym h) (rooms-whole 0 t)) lt);
  next = forest-more nodes i n lt ∙ ap (grow (forest [] (take i nodes))) (sym at);
}

-- at the end of an expression's nodes there is the type
pub whole : (nodes : List RelNode) (t : Relation) (i : ℕ) → nodes ≡ relation_nodes 0 t → i ≤ length nodes → length nodes ≤ i → forest [] (take i nodes) ≡ t ∷ []
whole nodes t i h up down =
    let e : i ≡ length nodes = omega arith in
    ap (forest []) (ap (λ k. take k nodes) e ∙ take-length nodes ∙ h) ∙ forest-whole 0 t

pub room-under : (under before : List Relation) (n : RelNode) → HasRoom before n → HasRoom (under ++ before) n
room-under under before (Var n t) r = tt
room-under under before (Eq t) r = tt
room-under under before (Con c us ids) r = simp length-append (omega arith)

-- expressions are compared by their nodes
pub same-nodes : (s t : Relation) → relation_nodes 0 s ≡ relation_nodes 0 t → s ≡ t
same-nodes s t e = sym (relation_of_nodes-relation_nodes 0 s) ∙ ap relation_of_nodes e ∙ relation_of_nodes-relation_nodes 0 t

-- the same of nodes that lie from any place on
pub step-from : (from : ℕ) (nodes : List RelNode) (t : Relation) (i : ℕ) (n : RelNode) → nodes ≡ relation_nodes from t → i < length nodes → n ≡ get_or nodes i n → IsStep nodes i n
step-from from nodes t i n h lt at = record {
  room = subst (HasRoom (forest [] (take i nodes))) (sym at) (room-at [] nodes i n (subst (Rooms []) (sym h) (rooms-whole from t)) lt);
  next = forest-more nodes i n lt ∙ ap (grow (forest [] (take i nodes))) (sym at);
}

pub whole-from : (from : ℕ) (nodes : List RelNode) (t : Relation) (i : ℕ) → nodes ≡ relation_nodes from t → i ≤ length nodes → length nodes ≤ i → forest [] (take i nodes) ≡ t ∷ []
whole-from from nodes t i h up down =
    let e : i ≡ length nodes = omega arith in
    ap (forest []) (ap (λ k. take k nodes) e ∙ take-length nodes ∙ h) ∙ forest-whole from t
