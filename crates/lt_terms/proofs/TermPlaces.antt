-- What stands at each place of a term's nodes.
use Rattle.std.proofs.Common.{◌≡◌, ℕ, ◌+◌, ◌<◌, ◌≤◌, List, [], ◌∷◌, ◌++◌, length, take, slice_get, Some, refl, sym, ◌∙◌, ap, subst, arith, append_assoc, append-nil, length-append}
use Rattle.std.proofs.Math.Seq.{take-append_seam}
use Rattle.lt_terms.specs.declared.term.TermNode.{TermNode}
use Rattle.lt_terms.specs.declared.term.TermNode.TheVariants.{Free, Bound, Const, App, Lam}
use Rattle.lt_definitions.specs.Types.{Chars, TypeTree}
use Rattle.lt_definitions.specs.Terms.{TermTree, free_variable, bound_name, constant, application, abstraction}
use Rattle.lt_terms.specs.Layout.{under, term_nodes, forest, first}
use Rattle.lt_terms.proofs.LayoutLemmas.{length-term_nodes, forest-term_nodes, forest-append, regroup}
use Rattle.lt_types.proofs.Places.{AllPlaces, places-append, at-place}

-- the term whose root stands at a place
abbrev pub term_at : List TermNode → ℕ → TermTree
term_at nodes at = first (forest [] (take (at + 1) nodes))

-- the term that a node makes of those at its places
abbrev pub tree_of : List TermNode → TermNode → TermTree
tree_of nodes (Free x ty) = free_variable x ty
tree_of nodes (Bound x) = bound_name x
tree_of nodes (Const c ts) = constant c ts
tree_of nodes (App f a) = application (term_at nodes f) (term_at nodes a)
tree_of nodes (Lam x ty b) = abstraction x ty (term_at nodes b)

-- a node's places are below a bound
abbrev pub IsWithin : ℕ → TermNode → Type 0
IsWithin n (App f a) = (f < n) × (a < n)
IsWithin n (Lam x ty b) = b < n
IsWithin n node = Unit {0}

-- the node at a place makes the term there
pub record IsPlace (nodes : List TermNode) (at : ℕ) (n : TermNode) : Type 0 where
  pub tree : term_at nodes at ≡ tree_of nodes n
  pub within : IsWithin (length nodes) n

-- the term that lies between other nodes stands at its root
term_at-root : (nodes front back : List TermNode) (from : ℕ) (t : TermTree) → from ≡ length front → nodes ≡ front ++ (term_nodes from t ++ back) → term_at nodes (from + under t) ≡ t
term_at-root nodes front back from t e h =
    ap (λ k. first (forest [] (take k nodes))) count
    ∙ ap (λ ns. first (forest [] (take (length whole) ns))) (h ∙ sym (append_assoc front (term_nodes from t) back))
    ∙ ap (λ ns. first (forest [] ns)) (take-append_seam whole back)
    ∙ ap first made
  where
    whole : List TermNode
    whole = front ++ term_nodes from t

    count : (from + under t) + 1 ≡ length whole
    count = omega (arith, e, length-append front (term_nodes from t), length-term_nodes from t)

    made : forest [] whole ≡ t ∷ forest [] front
    made = forest-append [] front (term_nodes from t) ∙ ap (forest (forest [] front)) (sym (append-nil (term_nodes from t))) ∙ forest-term_nodes from t (forest [] front) []

-- the nodes from a place on make the terms there
abbrev ArePlaces : List TermNode → ℕ → List TermNode → Type 0
ArePlaces nodes from ns = AllPlaces (IsPlace nodes) from ns

leaf : (nodes front back : List TermNode) (from : ℕ) (t : TermTree) → from ≡ length front → nodes ≡ front ++ (term_nodes from t ++ back) → under t ≡ 0 → term_at nodes from ≡ t
leaf nodes front back from t e h u =
    let same : from ≡ from + under t = omega arith in ap (term_at nodes) same ∙ term_at-root nodes front back from t e h

-- how an application's and an abstraction's nodes split
split-app : (nodes front back : List TermNode) (from : ℕ) (f a : TermTree) → nodes ≡ front ++ (term_nodes from (application f a) ++ back)
    → nodes ≡ front ++ (term_nodes from f ++ (term_nodes (from + (under f + 1)) a ++ (App (from + under f) (from + (under f + 1) + under a) ∷ back)))
split-app nodes front back from f a h = h ∙ ap (λ ns. front ++ ns) (regroup (term_nodes from f) (term_nodes (from + (under f + 1)) a) (App (from + under f) (from + (under f + 1) + under a) ∷ []) back)

split-lam : (nodes front back : List TermNode) (from : ℕ) (x : Chars) (ty : TypeTree) (b : TermTree) → nodes ≡ front ++ (term_nodes from (abstraction x ty b) ++ back)
    → nodes ≡ front ++ (term_nodes from b ++ (Lam x ty (from + under b) ∷ back))
split-lam nodes front back from x ty b h = h ∙ ap (λ ns. front ++ ns) (append_assoc (term_nodes from b) (Lam x ty (from + under b) ∷ []) back)

later-argument : (nodes front back : List TermNode) (from : ℕ) (f a : TermTree) → nodes ≡ front ++ (term_nodes from (application f a) ++ back)
    → nodes ≡ (front ++ term_nodes from f) ++ (term_nodes (from + (under f + 1)) a ++ (App (from + under f) (from + (under f + 1) + under a) ∷ back))
later-argument nodes front back from f a h =
    split-app nodes front back from f a h ∙ sym (append_assoc front (term_nodes from f) (term_nodes (from + (under f + 1)) a ++ (App (from + under f) (from + (under f + 1) + under a) ∷ back)))

count-argument : (front : List TermNode) (from : ℕ) (f : TermTree) → from ≡ length front → from + (under f + 1) ≡ length (front ++ term_nodes from f)
count-argument front from f e = omega (arith, e, length-append front (term_nodes from f), length-term_nodes from f)

-- all nodes are there
long : (nodes front back : List TermNode) (from : ℕ) (t : TermTree) → from ≡ length front → nodes ≡ front ++ (term_nodes from t ++ back) → (from + under t) + 1 ≤ length nodes
long nodes front back from t e h =
    omega (arith, ap length h, length-append front (term_nodes from t ++ back), length-append (term_nodes from t) back, length-term_nodes from t, e)

root-app : (nodes front back : List TermNode) (from : ℕ) (f a : TermTree) → from ≡ length front → nodes ≡ front ++ (term_nodes from (application f a) ++ back)
    → IsPlace nodes (from + under (application f a)) (App (from + under f) (from + (under f + 1) + under a))
root-app nodes front back from f a e h = record {
  tree = term_at-root nodes front back from (application f a) e h ∙ (λ i. application (sym function i) (sym argument i));
  within = (omega (arith, long nodes front back from (application f a) e h), omega (arith, long nodes front back from (application f a) e h));
}
  where
    last : List TermNode
    last = App (from + under f) (from + (under f + 1) + under a) ∷ back

    function : term_at nodes (from + under f) ≡ f
    function = term_at-root nodes front (term_nodes (from + (under f + 1)) a ++ last) from f e (split-app nodes front back from f a h)

    argument : term_at nodes (from + (under f + 1) + under a) ≡ a
    argument = term_at-root nodes (front ++ term_nodes from f) last (from + (under f + 1)) a (count-argument front from f e) (later-argument nodes front back from f a h)

root-lam : (nodes front back : List TermNode) (from : ℕ) (x : Chars) (ty : TypeTree) (b : TermTree) → from ≡ length front → nodes ≡ front ++ (term_nodes from (abstraction x ty b) ++ back)
    → IsPlace nodes (from + under (abstraction x ty b)) (Lam x ty (from + under b))
root-lam nodes front back from x ty b e h = record {
  tree = term_at-root nodes front back from (abstraction x ty b) e h ∙ ap (abstraction x ty) (sym (term_at-root nodes front (Lam x ty (from + under b) ∷ back) from b e (split-lam nodes front back from x ty b h)));
  within = omega (arith, long nodes front back from (abstraction x ty b) e h);
}

term-places : (nodes front back : List TermNode) (from : ℕ) (t : TermTree) → from ≡ length front → nodes ≡ front ++ (term_nodes from t ++ back) → ArePlaces nodes from (term_nodes from t)
term-places nodes front back from (free_variable x ty) e h = (record { tree = leaf nodes front back from (free_variable x ty) e h refl; within = tt }, tt)
term-places nodes front back from (bound_name x) e h = (record { tree = leaf nodes front back from (bound_name x) e h refl; within = tt }, tt)
term-places nodes front back from (constant c ts) e h = (record { tree = leaf nodes front back from (constant c ts) e h refl; within = tt }, tt)
term-places nodes front back from (application f a) e h =
    let last : List TermNode = App (from + under f) (from + (under f + 1) + under a) ∷ [] in
    let at : TermNode = App (from + under f) (from + (under f + 1) + under a) in
    places-append (IsPlace nodes) from (from + (under f + 1)) (term_nodes from f) (term_nodes (from + (under f + 1)) a ++ last) (omega (arith, length-term_nodes from f))
    (term-places nodes front (term_nodes (from + (under f + 1)) a ++ (at ∷ back)) from f e (split-app nodes front back from f a h))
    (places-append (IsPlace nodes) (from + (under f + 1)) (from + under (application f a)) (term_nodes (from + (under f + 1)) a) last (omega (arith, length-term_nodes (from + (under f + 1)) a))
    (term-places nodes (front ++ term_nodes from f) (at ∷ back) (from + (under f + 1)) a (count-argument front from f e) (later-argument nodes front back from f a h))
    (root-app nodes front back from f a e h, tt))
term-places nodes front back from (abstraction x ty b) e h =
    places-append (IsPlace nodes) from (from + under (abstraction x ty b)) (term_nodes from b) (Lam x ty (from + under b) ∷ []) (omega (arith, length-term_nodes from b))
    (term-places nodes front (Lam x ty (from + under b) ∷ back) from b e (split-lam nodes front back from x ty b h))
    (root-lam nodes front back from x ty b e h, tt)

-- the node at a place of a term
pub place : (t : TermTree) (at : ℕ) (n : TermNode) → slice_get (term_nodes 0 t) at ≡ Some n → IsPlace (term_nodes 0 t) at n
place t at n e =
    let none : term_nodes 0 t ≡ [] ++ (term_nodes 0 t ++ []) = sym (append-nil (term_nodes 0 t)) in
    let here : 0 + at ≡ at = omega arith in
    subst (λ k. IsPlace (term_nodes 0 t) k n) here (at-place (IsPlace (term_nodes 0 t)) (term_nodes 0 t) 0 at n (term-places (term_nodes 0 t) [] [] 0 t refl none) e)

-- at the root there is the term
pub term_at-last : (t : TermTree) → term_at (term_nodes 0 t) (under t) ≡ t
term_at-last t =
    let e : under t ≡ 0 + under t = omega arith in
    ap (term_at (term_nodes 0 t)) e ∙ term_at-root (term_nodes 0 t) [] [] 0 t refl (sym (append-nil (term_nodes 0 t)))
