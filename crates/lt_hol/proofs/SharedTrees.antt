-- What stands at the places of shared nodes, and how it is made by tasks.
use Rattle.std.proofs.Common.{◌≡◌, ℕ, zero, suc, ◌+◌, ◌*◌, ◌<◌, ◌≤◌, List, [], ◌∷◌, ◌++◌, true, length, reverse, get_or, nat_lt, refl, sym, ◌∙◌, ap, subst, arith, length-append}
use Rattle.std.proofs.Math.ListN.{get_or-append}
use Rattle.std.proofs.lemmas.List.{reverse-append, get_or_default}
use Rattle.std.proofs.lemmas.Bool.{ltb-true}
use Rattle.lt_definitions.proofs.SameNames.{both-true}
use Rattle.lt_definitions.specs.Terms.{TermTree, bound_name, application, abstraction}
use Rattle.lt_terms.specs.declared.term.TermNode.{TermNode}
use Rattle.lt_terms.specs.declared.term.TermNode.TheVariants.{Free, Bound, Const, App, Lam}
use Rattle.lt_hol.specs.declared.shared_nodes.Task.{Task}
use Rattle.lt_hol.specs.declared.shared_nodes.Task.TheVariants.{Visit, Make}
use Rattle.lt_terms.specs.Layout.{term_size, grow, HasRoom}
use Rattle.lt_hol.specs.Lines.{has_children_below, are_in_order, tree_of, trees_behind, trees}
use Rattle.lt_hol.specs.Tasks.{visits}

-- the term at a place
abbrev pub tree_at : List TermNode → ℕ → TermTree
tree_at nodes at = get_or (trees nodes) at (bound_name [])

-- what is there stays
at-front : (ts us : List TermTree) (p : ℕ) → p < length ts → get_or (ts ++ us) p (bound_name []) ≡ get_or ts p (bound_name [])
at-front ts us p h = get_or-append ts us (bound_name []) p h

stays : (ts : List TermTree) (ns : List TermNode) (p : ℕ) → p < length ts → get_or (trees_behind ts ns) p (bound_name []) ≡ get_or ts p (bound_name [])
stays ts [] p h = refl
stays ts (n ∷ ns) p h = stays (ts ++ tree_of ts n ∷ []) ns p (omega (arith, h, length-append ts (tree_of ts n ∷ []))) ∙ at-front ts (tree_of ts n ∷ []) p h

below : (p k : ℕ) → nat_lt p k ≡ true → p < k
below p k h = ltb-true p k h

tree-stays : (ts : List TermTree) (ns : List TermNode) (n : TermNode) → has_children_below (length ts) n ≡ true → tree_of (trees_behind ts ns) n ≡ tree_of ts n
tree-stays ts ns (Free x ty) h = refl
tree-stays ts ns (Bound x) h = refl
tree-stays ts ns (Const c us) h = refl
tree-stays ts ns (App f a) h =
    let k = both-true (nat_lt f (length ts)) (nat_lt a (length ts)) h in
    λ i. application (stays ts ns f (below f (length ts) k.0) i) (stays ts ns a (below a (length ts) k.1) i)
tree-stays ts ns (Lam x ty b) h = ap (abstraction x ty) (stays ts ns b (below b (length ts) h))

at-end : (ts : List TermTree) (t : TermTree) → get_or (ts ++ t ∷ []) (length ts) (bound_name []) ≡ t
at-end [] t = refl
at-end (u ∷ ts) t = at-end ts t

longer : (ts : List TermTree) (t : TermTree) → length (ts ++ t ∷ []) ≡ length ts + 1
longer ts t = length-append ts (t ∷ [])

-- a node makes the term at its place of the terms at its children's places
stands : (ts : List TermTree) (ns : List TermNode) (place at : ℕ) (d : TermNode) → place ≡ length ts → are_in_order place ns ≡ true → at < length ns
    → (get_or (trees_behind ts ns) (place + at) (bound_name []) ≡ tree_of (trees_behind ts ns) (get_or ns at d)) × (has_children_below (place + at) (get_or ns at d) ≡ true)
stands ts [] place at d e h lt = absurd (omega (arith, lt))
stands ts (n ∷ ns) place zero d e h lt =
    let k = both-true (has_children_below place n) (are_in_order (place + 1) ns) h in
    let z : place + 0 ≡ place = omega arith in
    let here : has_children_below (length ts) n ≡ true = ap (λ i. has_children_below i n) (sym e) ∙ k.0 in (
      ap (λ i. get_or (trees_behind ts (n ∷ ns)) i (bound_name [])) (z ∙ e)
          ∙ stays (ts ++ tree_of ts n ∷ []) ns (length ts) (omega (arith, longer ts (tree_of ts n))) ∙ at-end ts (tree_of ts n) ∙ sym (tree-stays ts (n ∷ ns) n here),
      ap (λ i. has_children_below i n) z ∙ k.0,
    )
stands ts (n ∷ ns) place (suc at) d e h lt =
    let k = both-true (has_children_below place n) (are_in_order (place + 1) ns) h in
    let z : place + suc at ≡ (place + 1) + at = omega arith in
    let r = stands (ts ++ tree_of ts n ∷ []) ns (place + 1) at d (omega (arith, e, longer ts (tree_of ts n))) k.1 (omega (arith, lt)) in
    (ap (λ i. get_or (trees_behind ts (n ∷ ns)) i (bound_name [])) z ∙ r.0, ap (λ i. has_children_below i (get_or ns at d)) z ∙ r.1)

-- the node at a place
pub record IsAt (nodes : List TermNode) (at : ℕ) (n : TermNode) : Type 0 where
  pub tree : tree_at nodes at ≡ tree_of (trees nodes) n
  pub within : has_children_below at n ≡ true

pub at-place : (nodes : List TermNode) (at : ℕ) (n : TermNode) → are_in_order 0 nodes ≡ true → at < length nodes → n ≡ get_or nodes at n → IsAt nodes at n
at-place nodes at n h lt e =
    let r = stands [] nodes 0 at n refl h lt in
    let z : 0 + at ≡ at = omega arith in record {
      tree = ap (λ i. get_or (trees nodes) i (bound_name [])) (sym z) ∙ r.0 ∙ ap (tree_of (trees nodes)) (sym e);
      within = (λ i. has_children_below (sym z i) (e i)) ∙ r.1;
    }

abbrev pub node_at : List TermNode → ℕ → TermNode
node_at nodes at = get_or nodes at (Bound [])

-- The tasks that are left, the next one first, make the term of the terms that were made.
abbrev pub Makes : List TermNode → TermTree → List Task → List TermTree → Type 0
Makes nodes t [] built = built ≡ t ∷ []
Makes nodes t (Visit at ∷ tasks) built = (at < length nodes) × Makes nodes t tasks (tree_at nodes at ∷ built)
Makes nodes t (Make at ∷ tasks) built = (at < length nodes) × (HasRoom built (node_at nodes at) × Makes nodes t tasks (grow built (node_at nodes at)))

-- the tasks of a vector, whose last one is the next
abbrev pub MakesLast : List TermNode → TermTree → List Task → List TermTree → Type 0
MakesLast nodes t items built = Makes nodes t (reverse items) built

pub makes-first : (nodes : List TermNode) (at : ℕ) (empty items : List Task) (built : List TermTree) → at < length nodes → empty ≡ [] → items ≡ empty ++ Visit at ∷ [] → built ≡ [] → MakesLast nodes (tree_at nodes at) items built
makes-first nodes at empty items built lt none is new =
    let tasks : items ≡ Visit at ∷ [] = is ∙ ap (λ (ts : List Task). ts ++ Visit at ∷ []) none in
    subst (λ (q : List Task × List TermTree). MakesLast nodes (tree_at nodes at) q.0 q.1) (λ i. (sym tasks i, sym new i)) (lt, refl)

taken : (items left : List Task) (task same : Task) → items ≡ left ++ task ∷ [] → task ≡ same → reverse items ≡ same ∷ reverse left
taken items left task same e is = ap reverse (e ∙ ap (λ (q : Task). left ++ q ∷ []) is) ∙ reverse-append left (same ∷ [])

pub makes-last : (nodes : List TermNode) (t : TermTree) (items : List Task) (built : List TermTree) → items ≡ [] → MakesLast nodes t items built → built ≡ t ∷ []
makes-last nodes t items built none h = subst (λ (ts : List Task). MakesLast nodes t ts built) none h

pub visit-within : (nodes : List TermNode) (t : TermTree) (items left : List Task) (task : Task) (at : ℕ) (built : List TermTree) → items ≡ left ++ task ∷ [] → task ≡ Visit at → MakesLast nodes t items built → at < length nodes
visit-within nodes t items left task at built e is h = (subst (λ (ts : List Task). Makes nodes t ts built) (taken items left task (Visit at) e is) h).0

pub make-within : (nodes : List TermNode) (t : TermTree) (items left : List Task) (task : Task) (at : ℕ) (built : List TermTree) → items ≡ left ++ task ∷ [] → task ≡ Make at → MakesLast nodes t items built → at < length nodes
make-within nodes t items left task at built e is h = (subst (λ (ts : List Task). Makes nodes t ts built) (taken items left task (Make at) e is) h).0

-- a visit becomes visits to the children, and then the node is made
visited : (nodes : List TermNode) (t : TermTree) (at : ℕ) (n : TermNode) (tasks : List Task) (built : List TermTree) → IsAt nodes at n → n ≡ node_at nodes at → at < length nodes → Makes nodes t tasks (tree_at nodes at ∷ built)
    → Makes nodes t (reverse (visits n) ++ (Make at ∷ tasks)) built
visited nodes t at n tasks built place e lt h = by n place e (subst (λ (u : TermTree). Makes nodes t tasks (u ∷ built)) place.tree h)
  where
    made : (m : TermNode) (before : List TermTree) → m ≡ node_at nodes at → HasRoom before m → Makes nodes t tasks (grow before m) → Makes nodes t (Make at ∷ tasks) before
    made m before q room k = (lt, subst (λ (o : TermNode). HasRoom before o × Makes nodes t tasks (grow before o)) q (room, k))

    by : (m : TermNode) → IsAt nodes at m → m ≡ node_at nodes at → Makes nodes t tasks (tree_of (trees nodes) m ∷ built) → Makes nodes t (reverse (visits m) ++ (Make at ∷ tasks)) built
    by (Free x ty) p q k = made (Free x ty) built q tt k
    by (Bound x) p q k = made (Bound x) built q tt k
    by (Const c ts) p q k = made (Const c ts) built q tt k
    by (App f a) p q k =
        let w = both-true (nat_lt f at) (nat_lt a at) p.within in
        let two : 2 ≤ length (tree_at nodes a ∷ tree_at nodes f ∷ built) = omega arith in
        (omega (arith, lt, below f at w.0), (omega (arith, lt, below a at w.1), made (App f a) (tree_at nodes a ∷ tree_at nodes f ∷ built) q two k))
    by (Lam x ty b) p q k =
        let one : 1 ≤ length (tree_at nodes b ∷ built) = omega arith in
        (omega (arith, lt, below b at p.within), made (Lam x ty b) (tree_at nodes b ∷ built) q one k)

pub visit-step : (nodes : List TermNode) (t : TermTree) (items left pushed later : List Task) (task : Task) (at : ℕ) (n : TermNode) (built : List TermTree) → are_in_order 0 nodes ≡ true → n ≡ get_or nodes at n
    → items ≡ left ++ task ∷ [] → task ≡ Visit at → pushed ≡ left ++ Make at ∷ [] → later ≡ pushed ++ visits n → MakesLast nodes t items built → MakesLast nodes t later built
visit-step nodes t items left pushed later task at n built order is e same put more h =
    let k = subst (λ (ts : List Task). Makes nodes t ts built) (taken items left task (Visit at) e same) h in
    let list : reverse later ≡ reverse (visits n) ++ (Make at ∷ reverse left) =
    ap reverse (more ∙ ap (λ (ts : List Task). ts ++ visits n) put) ∙ reverse-append (left ++ Make at ∷ []) (visits n)
    ∙ ap (λ (ts : List Task). reverse (visits n) ++ ts) (reverse-append left (Make at ∷ [])) in
    subst (λ (ts : List Task). Makes nodes t ts built) (sym list)
    (visited nodes t at n (reverse left) built (at-place nodes at n order k.0 is) (is ∙ get_or_default nodes at n (Bound []) k.0) k.0 k.1)

pub make-step : (nodes : List TermNode) (t : TermTree) (items left : List Task) (task : Task) (at : ℕ) (n : TermNode) (built : List TermTree) → n ≡ get_or nodes at n
    → items ≡ left ++ task ∷ [] → task ≡ Make at → MakesLast nodes t items built → HasRoom built n × MakesLast nodes t left (grow built n)
make-step nodes t items left task at n built is e same h =
    let k = subst (λ (ts : List Task). Makes nodes t ts built) (taken items left task (Make at) e same) h in
    subst (λ (m : TermNode). HasRoom built m × Makes nodes t (reverse left) (grow built m)) (sym (is ∙ get_or_default nodes at n (Bound []) k.0)) k.1

-- how much is left to be done

abbrev weight : List TermNode → Task → ℕ
weight nodes (Visit at) = 2 * term_size (tree_at nodes at)
weight nodes (Make at) = 1

abbrev pub weights : List TermNode → List Task → ℕ
weights nodes [] = 0
weights nodes (p ∷ tasks) = weight nodes p + weights nodes tasks

weights-append : (nodes : List TermNode) (ps qs : List Task) → weights nodes (ps ++ qs) ≡ weights nodes ps + weights nodes qs
weights-append nodes [] qs = omega arith
weights-append nodes (p ∷ ps) qs = omega (arith, weights-append nodes ps qs)

visits-less : (nodes : List TermNode) (n : TermNode) → 1 + weights nodes (visits n) < 2 * term_size (tree_of (trees nodes) n)
visits-less nodes (Free x ty) = omega arith
visits-less nodes (Bound x) = omega arith
visits-less nodes (Const c ts) = omega arith
visits-less nodes (App f a) = omega arith
visits-less nodes (Lam x ty b) = omega arith

pub visit-smaller : (nodes : List TermNode) (items left pushed later : List Task) (task : Task) (at : ℕ) (n : TermNode) → are_in_order 0 nodes ≡ true → at < length nodes → n ≡ get_or nodes at n
    → items ≡ left ++ task ∷ [] → task ≡ Visit at → pushed ≡ left ++ Make at ∷ [] → later ≡ pushed ++ visits n → weights nodes later < weights nodes items
visit-smaller nodes items left pushed later task at n order lt is e same put more =
    let before : weights nodes items ≡ weights nodes left + 2 * term_size (tree_at nodes at) = ap (weights nodes) (e ∙ ap (λ (q : Task). left ++ q ∷ []) same) ∙ weights-append nodes left (Visit at ∷ []) ∙ omega arith in
    let after : weights nodes later ≡ (weights nodes left + 1) + weights nodes (visits n) =
    ap (weights nodes) more ∙ weights-append nodes pushed (visits n) ∙ ap (λ (k : ℕ). k + weights nodes (visits n)) (ap (weights nodes) put ∙ weights-append nodes left (Make at ∷ [])) in
    let size : term_size (tree_at nodes at) ≡ term_size (tree_of (trees nodes) n) = ap term_size (at-place nodes at n order lt is).tree in
    omega (arith, before, after, size, visits-less nodes n)

pub make-smaller : (nodes : List TermNode) (items left : List Task) (task : Task) (at : ℕ) → items ≡ left ++ task ∷ [] → task ≡ Make at → weights nodes left < weights nodes items
make-smaller nodes items left task at e same =
    let before : weights nodes items ≡ weights nodes left + (1 + 0) = ap (weights nodes) (e ∙ ap (λ (q : Task). left ++ q ∷ []) same) ∙ weights-append nodes left (Make at ∷ []) in
    omega (arith, before)
