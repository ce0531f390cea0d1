-- Counts that stop at a bound.
use Rattle.std.proofs.Common.{◌≡◌, ℕ, zero, suc, ◌+◌, ◌<◌, ◌≤◌, List, [], ◌∷◌, ◌++◌, length, drop, get_or, min, refl, sym, ◌∙◌, ap, arith, append_assoc, append-nil}
use Rattle.std.proofs.Math.Seq.{drop-cons}
use Rattle.lt_types.specs.Layout.{sizes, type_size}
use Rattle.lt_definitions.specs.Types.{TypeTree, TypeTrees, type_variable, type_constructor, no_types, type_and, row, type_nodes, types_nodes}
use Rattle.lt_definitions.specs.Terms.{TermTree, free_variable, bound_name, constant, application, abstraction}
use Rattle.lt_definitions.specs.Terms as terms
use Rattle.lt_terms.specs.declared.term.TermNode.{TermNode}
use Rattle.lt_terms.specs.declared.term.TermNode.TheVariants.{App, Lam}
use Rattle.lt_terms.specs.Layout.{under, term_nodes}
use Rattle.lt_terms.specs.Counts.{node_count}
use Rattle.lt_terms.proofs.LayoutLemmas.{regroup}

mutual
  pub size-nodes : (t : TypeTree) → type_size t ≡ type_nodes t
  size-nodes (type_variable x) = omega arith
  size-nodes (type_constructor c ts) = omega (arith, sizes-nodes ts)

  sizes-nodes : (ts : TypeTrees) → sizes ts ≡ types_nodes ts
  sizes-nodes no_types = refl
  sizes-nodes (type_and t ts) = omega (arith, size-nodes t, sizes-nodes ts)

-- the counts of nodes together
abbrev pub nodes_in : List TermNode → ℕ
nodes_in [] = 0
nodes_in (n ∷ ns) = node_count n + nodes_in ns

nodes_in-term : (from : ℕ) (t : TermTree) (ns : List TermNode) → nodes_in (term_nodes from t ++ ns) ≡ terms.term_nodes t + nodes_in ns
nodes_in-term from (free_variable x t) ns = refl
nodes_in-term from (bound_name x) ns = refl
nodes_in-term from (constant c ts) ns = refl
nodes_in-term from (application f a) ns =
    let at : ℕ = from + (under f + 1) in
    let last : TermNode = App (from + under f) (at + under a) in
    let e = ap nodes_in (regroup (term_nodes from f) (term_nodes at a) (last ∷ []) ns) in
    omega (arith, e, nodes_in-term from f (term_nodes at a ++ (last ∷ ns)), nodes_in-term at a (last ∷ ns))
nodes_in-term from (abstraction x t b) ns =
    let last : TermNode = Lam x t (from + under b) in
    let e = ap nodes_in (append_assoc (term_nodes from b) (last ∷ []) ns) in
    omega (arith, e, nodes_in-term from b (last ∷ ns))

-- what was counted and what is left, up to the bound, is the whole up to the bound
pub first-count : (m : ℕ) (t : TermTree) (nodes : List TermNode) → nodes ≡ term_nodes 0 t → min (0 + nodes_in (drop 0 nodes)) m ≡ min (terms.term_nodes t) m
first-count m t nodes is =
    let e : 0 + nodes_in nodes ≡ terms.term_nodes t = omega (arith, ap nodes_in (is ∙ sym (append-nil (term_nodes 0 t))), nodes_in-term 0 t []) in ap (λ k. min k m) e

stops : (m a k r : ℕ) → min (min (a + min k m) m + r) m ≡ min (a + (k + r)) m
stops m a k r = omega arith

pub next-count : (m whole a b c : ℕ) (nodes : List TermNode) (i : ℕ) (n : TermNode) → i < length nodes → n ≡ get_or nodes i n → b ≡ min (node_count n) m → c ≡ min (a + b) m
    → min (a + nodes_in (drop i nodes)) m ≡ whole → min (c + nodes_in (drop (i + 1) nodes)) m ≡ whole
next-count m whole a b c nodes i n lt is count made h =
    let e : suc i ≡ i + 1 = omega arith in
    let next : drop i nodes ≡ n ∷ drop (i + 1) nodes = drop-cons nodes i n lt ∙ (λ j. sym is j ∷ drop (e j) nodes) in
    ap (λ k. min (k + nodes_in (drop (i + 1) nodes)) m) (made ∙ ap (λ k. min (a + k) m) count)
    ∙ stops m a (node_count n) (nodes_in (drop (i + 1) nodes)) ∙ ap (λ ns. min (a + nodes_in ns) m) (sym next) ∙ h

drop-past : {A : Type 0} (xs : List A) (i : ℕ) → length xs ≤ i → drop i xs ≡ []
drop-past [] zero le = refl
drop-past [] (suc i) le = refl
drop-past (x ∷ xs) zero le = absurd (omega arith)
drop-past (x ∷ xs) (suc i) le = drop-past xs i (omega arith)

pub last-count : (m whole a : ℕ) (nodes : List TermNode) (i : ℕ) → length nodes ≤ i → a ≤ m → min (a + nodes_in (drop i nodes)) m ≡ whole → a ≡ whole
last-count m whole a nodes i le fits h =
    let e : a ≡ min (a + nodes_in []) m = omega (arith, fits) in e ∙ ap (λ ns. min (a + nodes_in ns) m) (sym (drop-past nodes i le)) ∙ h

pub next-types : (m whole a b c : ℕ) (types : List TypeTree) (i : ℕ) (t : TypeTree) → i < length types → t ≡ get_or types i t → b ≡ type_size t → c ≡ min (a + b) m
    → min (a + types_nodes (row (drop i types))) m ≡ whole → min (c + types_nodes (row (drop (i + 1) types))) m ≡ whole
next-types m whole a b c types i t lt is count made h =
    let e : suc i ≡ i + 1 = omega arith in
    let next : drop i types ≡ t ∷ drop (i + 1) types = drop-cons types i t lt ∙ (λ j. sym is j ∷ drop (e j) types) in
    let rest : ℕ = types_nodes (row (drop (i + 1) types)) in
    let stop : min (min (a + type_nodes t) m + rest) m ≡ min (a + (type_nodes t + rest)) m = omega arith in
    ap (λ k. min (k + rest) m) (made ∙ ap (λ k. min (a + k) m) (count ∙ size-nodes t)) ∙ stop ∙ ap (λ ts. min (a + types_nodes (row ts)) m) (sym next) ∙ h

pub last-types : (m whole a : ℕ) (types : List TypeTree) (i : ℕ) → length types ≤ i → a ≤ m → min (a + types_nodes (row (drop i types))) m ≡ whole → a ≡ whole
last-types m whole a types i le fits h =
    let e : a ≡ min (a + types_nodes (row [])) m = omega (arith, fits) in e ∙ ap (λ ts. min (a + types_nodes (row ts)) m) (sym (drop-past types i le)) ∙ h

pub capped : (m a b : ℕ) → b ≡ min a m → b ≤ m
capped m a b e = omega (arith, e)

-- a node with one type
pub one-type : (m k c : ℕ) (n : TermNode) (t : TypeTree) → node_count n ≡ 1 + type_nodes t → k ≡ type_size t → c ≡ min (k + 1) m → c ≡ min (node_count n) m
one-type m k c n t count size e =
    let same : k + 1 ≡ node_count n = omega (arith, count, size, size-nodes t) in e ∙ ap (λ j. min j m) same
