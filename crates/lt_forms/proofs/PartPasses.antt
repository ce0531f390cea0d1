-- A pass over the nodes of a part makes the part.
use Rattle.std.proofs.Common.{◌≡◌, ℕ, zero, suc, ◌+◌, ◌<◌, ◌≤◌, List, [], ◌∷◌, ◌++◌, length, take, get_or, sym, ◌∙◌, ap, subst, arith, append_assoc, append-nil}
use Rattle.std.proofs.lemmas.List.{take_more}
use Rattle.std.proofs.Math.Seq.{take-length}
use Rattle.lt_terms.specs.declared.term.TermNode.{TermNode}
use Rattle.lt_terms.specs.declared.term.TermNode.TheVariants.{App, Lam}
use Rattle.lt_definitions.specs.Terms.{TermTree, free_variable, bound_name, constant, application, abstraction}
use Rattle.lt_terms.specs.Layout.{under, term_nodes, term_of_nodes, grow, HasRoom, forest}
use Rattle.lt_terms.proofs.LayoutLemmas.{forest-whole, forest-append, regroup}
use Rattle.lt_forms.specs.Shapes.{IsPart}

abbrev HaveRoom : List TermTree → List TermNode → Type 0
HaveRoom before [] = Unit {0}
HaveRoom before (n ∷ ns) = HasRoom before n × HaveRoom (grow before n) ns

rooms : (from : ℕ) (t : TermTree) (before : List TermTree) (ns : List TermNode) → HaveRoom (t ∷ before) ns → HaveRoom before (term_nodes from t ++ ns)
rooms from (free_variable x t) before ns h = (tt, h)
rooms from (bound_name x) before ns h = (tt, h)
rooms from (constant c ts) before ns h = (tt, h)
rooms from (application f a) before ns h =
    let last : List TermNode = App (from + under f) (from + (under f + 1) + under a) ∷ [] in
    let two : 2 ≤ length (a ∷ f ∷ before) = omega arith in
    subst (HaveRoom before) (sym (regroup (term_nodes from f) (term_nodes (from + (under f + 1)) a) last ns))
    (rooms from f before (term_nodes (from + (under f + 1)) a ++ (last ++ ns)) (rooms (from + (under f + 1)) a (f ∷ before) (last ++ ns) (two, h)))
rooms from (abstraction x t b) before ns h =
    let one : 1 ≤ length (b ∷ before) = omega arith in
    subst (HaveRoom before) (sym (append_assoc (term_nodes from b) (Lam x t (from + under b) ∷ []) ns))
    (rooms from b before (Lam x t (from + under b) ∷ ns) (one, h))

room-at : (before : List TermTree) (nodes : List TermNode) (i : ℕ) (d : TermNode) → HaveRoom before nodes → i < length nodes → HasRoom (forest before (take i nodes)) (get_or nodes i d)
room-at before [] i d r h = absurd (omega arith)
room-at before (n ∷ ns) zero d r h = r.0
room-at before (n ∷ ns) (suc i) d r h = room-at (grow before n) ns i d r.1 (omega arith)

-- the node at a place of a part: there is room for it, and it makes the next terms
pub has-room : (from : ℕ) (nodes : List TermNode) (i : ℕ) (n : TermNode) → IsPart from nodes → i < length nodes → n ≡ get_or nodes i n → HasRoom (forest [] (take i nodes)) n
has-room from nodes i n p lt at =
    let t : TermTree = term_of_nodes nodes in
    subst (HasRoom (forest [] (take i nodes))) (sym at)
    (room-at [] nodes i n (subst (HaveRoom []) (append-nil (term_nodes from t) ∙ sym p.laid) (rooms from t [] [] tt)) lt)

pub grows : (nodes : List TermNode) (i : ℕ) (n : TermNode) → i < length nodes → n ≡ get_or nodes i n → forest [] (take (i + 1) nodes) ≡ grow (forest [] (take i nodes)) n
grows nodes i n lt at = ap (forest []) (take_more nodes i n lt) ∙ forest-append [] (take i nodes) (get_or nodes i n ∷ []) ∙ ap (grow (forest [] (take i nodes))) (sym at)

-- at the end there is the part
pub whole-part : (from : ℕ) (nodes : List TermNode) (i : ℕ) → IsPart from nodes → i ≤ length nodes → length nodes ≤ i → forest [] (take i nodes) ≡ term_of_nodes nodes ∷ []
whole-part from nodes i p up down =
    let e : i ≡ length nodes = omega arith in
    ap (forest []) (ap (λ k. take k nodes) e ∙ take-length nodes ∙ p.laid) ∙ forest-whole from (term_of_nodes nodes)

pub only : (s t : TermTree) (ts : List TermTree) → ts ≡ s ∷ [] → ts ≡ t ∷ [] → s ≡ t
only s t ts h k = let e : s ∷ [] ≡ t ∷ [] = sym h ∙ k in cc
