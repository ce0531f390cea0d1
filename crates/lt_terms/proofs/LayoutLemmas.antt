-- What is read of the nodes of a term.
use Rattle.std.proofs.Common.{◌≡◌, ℕ, zero, suc, ◌+◌, ◌<◌, ◌≤◌, List, [], ◌∷◌, ◌++◌, length, take, get_or, refl, sym, ◌∙◌, ap, subst, arith, append_assoc, append-nil, length-append}
use Rattle.std.proofs.lemmas.List.{take_more}
use Rattle.std.proofs.Math.Seq.{take-length}
use Rattle.lt_terms.specs.declared.term.TermNode.{TermNode}
use Rattle.lt_terms.specs.declared.term.TermNode.TheVariants.{Free, Bound, Const, App, Lam}
use Rattle.lt_definitions.specs.Terms.{TermTree, free_variable, bound_name, constant, application, abstraction}
use Rattle.lt_terms.specs.Layout.{under, term_size, term_nodes, grow, HasRoom, forest, first, term_of_nodes}

pub length-term_nodes : (from : ℕ) (t : TermTree) → length (term_nodes from t) ≡ term_size t
length-term_nodes from (free_variable x t) = omega arith
length-term_nodes from (bound_name x) = omega arith
length-term_nodes from (constant c ts) = omega arith
length-term_nodes from (application f a) =
    simp length-append (omega (arith, length-term_nodes from f, length-term_nodes (from + (under f + 1)) a))
length-term_nodes from (abstraction x t b) = simp length-append (omega (arith, length-term_nodes from b))

-- three lists and a fourth, regrouped
pub regroup : {A : Type 0} (xs ys zs ns : List A) → (xs ++ (ys ++ zs)) ++ ns ≡ xs ++ (ys ++ (zs ++ ns))
regroup xs ys zs ns = simp append_assoc

pub forest-term_nodes : (from : ℕ) (t : TermTree) (before : List TermTree) (ns : List TermNode) → forest before (term_nodes from t ++ ns) ≡ forest (t ∷ before) ns
forest-term_nodes from (free_variable x t) before ns = refl
forest-term_nodes from (bound_name x) before ns = refl
forest-term_nodes from (constant c ts) before ns = refl
forest-term_nodes from (application f a) before ns =
    let last : List TermNode = App (from + under f) (from + (under f + 1) + under a) ∷ [] in
    ap (forest before) (regroup (term_nodes from f) (term_nodes (from + (under f + 1)) a) last ns)
    ∙ forest-term_nodes from f before (term_nodes (from + (under f + 1)) a ++ (last ++ ns))
    ∙ forest-term_nodes (from + (under f + 1)) a (f ∷ before) (last ++ ns)
forest-term_nodes from (abstraction x t b) before ns =
    ap (forest before) (append_assoc (term_nodes from b) (Lam x t (from + under b) ∷ []) ns)
    ∙ forest-term_nodes from b before (Lam x t (from + under b) ∷ ns)

pub forest-whole : (from : ℕ) (t : TermTree) → forest [] (term_nodes from t) ≡ t ∷ []
forest-whole from t = ap (forest []) (sym (append-nil (term_nodes from t))) ∙ forest-term_nodes from t [] []

-- what is laid out is read again
pub term_of_nodes-term_nodes : (from : ℕ) (t : TermTree) → term_of_nodes (term_nodes from t) ≡ t
term_of_nodes-term_nodes from t = ap first (forest-whole from t)

pub laid : (nodes : List TermNode) (t : TermTree) → nodes ≡ term_nodes 0 (term_of_nodes nodes) → term_of_nodes nodes ≡ t → nodes ≡ term_nodes 0 t
laid nodes t h e = h ∙ ap (term_nodes 0) e

pub forest-append : (before : List TermTree) (xs ys : List TermNode) → forest before (xs ++ ys) ≡ forest (forest before xs) ys
forest-append before [] ys = refl
forest-append before (n ∷ xs) ys = forest-append (grow before n) xs ys

abbrev HaveRoom : List TermTree → List TermNode → Type 0
HaveRoom before [] = Unit {0}
HaveRoom before (n ∷ ns) = HasRoom before n × HaveRoom (grow before n) ns

rooms-term_nodes : (from : ℕ) (t : TermTree) (before : List TermTree) (ns : List TermNode) → HaveRoom (t ∷ before) ns → HaveRoom before (term_nodes from t ++ ns)
rooms-term_nodes from (free_variable x t) before ns h = (tt, h)
rooms-term_nodes from (bound_name x) before ns h = (tt, h)
rooms-term_nodes from (constant c ts) before ns h = (tt, h)
rooms-term_nodes from (application f a) before ns h =
    let last : List TermNode = App (from + under f) (from + (under f + 1) + under a) ∷ [] in
    let two : 2 ≤ length (a ∷ f ∷ before) = omega arith in
    subst (HaveRoom before) (sym (regroup (term_nodes from f) (term_nodes (from + (under f + 1)) a) last ns))
    (rooms-term_nodes from f before (term_nodes (from + (under f + 1)) a ++ (last ++ ns)) (rooms-term_nodes (from + (under f + 1)) a (f ∷ before) (last ++ ns) (two, h)))
rooms-term_nodes from (abstraction x t b) before ns h =
    let one : 1 ≤ length (b ∷ before) = omega arith in
    subst (HaveRoom before) (sym (append_assoc (term_nodes from b) (Lam x t (from + under b) ∷ []) ns))
    (rooms-term_nodes from b before (Lam x t (from + under b) ∷ ns) (one, h))

room-at : (before : List TermTree) (nodes : List TermNode) (i : ℕ) (d : TermNode) → HaveRoom before nodes → i < length nodes → HasRoom (forest before (take i nodes)) (get_or nodes i d)
room-at before [] i d r h = absurd (omega arith)
room-at before (n ∷ ns) zero d r h = r.0
room-at before (n ∷ ns) (suc i) d r h = room-at (grow before n) ns i d r.1 (omega arith)

-- the node at a place of a term: there is room for it, and it makes the next terms
pub record IsStep (nodes : List TermNode) (i : ℕ) (n : TermNode) : Type 0 where
  pub room : HasRoom (forest [] (take i nodes)) n
  pub next : forest [] (take (i + 1) nodes) ≡ grow (forest [] (take i nodes)) n

pub step : (nodes : List TermNode) (t : TermTree) (i : ℕ) (n : TermNode) → nodes ≡ term_nodes 0 t → i < length nodes → n ≡ get_or nodes i n → IsStep nodes i n
step nodes t i n h lt at = record {
  room = subst (HasRoom (forest [] (take i nodes))) (sym at) (room-at [] nodes i n (subst (HaveRoom []) (sym h) (subst (HaveRoom []) (append-nil (term_nodes 0 t)) (rooms-term_nodes 0 t [] [] tt))) lt);
  next = ap (forest []) (take_more nodes i n lt) ∙ forest-append [] (take i nodes) (get_or nodes i n ∷ []) ∙ ap (grow (forest [] (take i nodes))) (sym at);
}

-- at the end of a term's nodes there is the term
pub whole : (nodes : List TermNode) (t : TermTree) (i : ℕ) → nodes ≡ term_nodes 0 t → i ≤ length nodes → length nodes ≤ i → forest [] (take i nodes) ≡ t ∷ []
whole nodes t i h up down =
    let e : i ≡ length nodes = omega arith in
    ap (forest []) (ap (λ k. take k nodes) e ∙ take-length nodes ∙ h) ∙ forest-whole 0 t

-- a node grows the last terms of a list alone
pub grow-over : (before over : List TermTree) (n : TermNode) → HasRoom before n → grow (before ++ over) n ≡ grow before n ++ over
grow-over before over (Free x t) r = refl
grow-over before over (Bound x) r = refl
grow-over before over (Const c ts) r = refl
grow-over (a ∷ f ∷ before) over (App i j) r = refl
grow-over (b ∷ before) over (Lam x t i) r = refl
grow-over [] over (App i j) r = absurd (omega arith)
grow-over (a ∷ []) over (App i j) r = absurd (omega arith)
grow-over [] over (Lam x t i) r = absurd (omega arith)

pub room-over : (before over : List TermTree) (n : TermNode) → HasRoom before n → HasRoom (before ++ over) n
room-over before over (Free x t) r = tt
room-over before over (Bound x) r = tt
room-over before over (Const c ts) r = tt
room-over before over (App i j) r = simp length-append (omega arith)
room-over before over (Lam x t i) r = simp length-append (omega arith)

-- ---- nodes that are copied one after another

pub copied-more : (nodes made more : List TermNode) (i : ℕ) (n m : TermNode) → made ≡ take i nodes → m ≡ n → n ≡ get_or nodes i n → i < length nodes → more ≡ made ++ m ∷ [] → more ≡ take (i + 1) nodes
copied-more nodes made more i n m h same at lt e = e ∙ (λ j. h j ++ (same ∙ at) j ∷ []) ∙ sym (take_more nodes i n lt)

copied-all : (nodes made : List TermNode) (i : ℕ) → i ≤ length nodes → length nodes ≤ i → made ≡ take i nodes → made ≡ nodes
copied-all nodes made i up down h =
    let e : i ≡ length nodes = omega (arith, up, down) in
    h ∙ ap (λ k. take k nodes) e ∙ take-length nodes

pub copied-whole : (nodes made : List TermNode) (t : TermTree) (i : ℕ) → nodes ≡ term_nodes 0 t → i ≤ length nodes → length nodes ≤ i → made ≡ take i nodes → term_of_nodes made ≡ t
copied-whole nodes made t i e up down h = ap term_of_nodes (copied-all nodes made i up down h ∙ e) ∙ term_of_nodes-term_nodes 0 t

pub copied-laid : (nodes made : List TermNode) (t : TermTree) (i : ℕ) → nodes ≡ term_nodes 0 t → i ≤ length nodes → length nodes ≤ i → made ≡ take i nodes → made ≡ term_nodes 0 (term_of_nodes made)
copied-laid nodes made t i e up down h =
    copied-all nodes made i up down h ∙ e ∙ ap (term_nodes 0) (sym (copied-whole nodes made t i e up down h))
