-- The binders of bound names, found from the last node of a term to its first.
use Rattle.std.proofs.Common.{◌≡◌, ℕ, zero, suc, ◌+◌, ◌<◌, ◌≤◌, List, [], ◌∷◌, ◌++◌, length, take, get_or, reverse, drop, refl, sym, ◌∙◌, ap, subst, arith, append_assoc, append-nil, Option, None}
use Rattle.std.proofs.lemmas.List.{get_or_default, reverse-append}
use Rattle.lt_terms.specs.declared.bound_names.Binder.{Binder}
use Rattle.lt_terms.specs.declared.pending.Task.{Task}
use Rattle.lt_terms.specs.declared.pending.Task.TheVariants.{Tree, Close}
use Rattle.lt_terms.specs.declared.term.TermNode.{TermNode}
use Rattle.lt_terms.specs.declared.term.TermNode.TheVariants.{Free, Bound, Const, App, Lam}
use Rattle.lt_definitions.specs.Terms.{TermTree, free_variable, bound_name, constant}
use Rattle.lt_terms.specs.Layout.{under, term_nodes, grow, HasRoom, forest, sizes}
use Rattle.lt_terms.specs.BoundNames.{Places, binder_of, binders_in}
use Rattle.lt_terms.specs.Scopes.{scopes_of, within, binder_at}
use Rattle.lt_terms.proofs.LayoutLemmas.{step, IsStep}

-- ---- the tasks of a pass

pub scopes-tree : (around : Places) (tasks more : List Task) → more ≡ tasks ++ Tree ∷ [] → scopes_of around (reverse more) ≡ around ∷ scopes_of around (reverse tasks)
scopes-tree around tasks more e = ap (scopes_of around) (ap reverse e ∙ reverse-append tasks (Tree ∷ []))

pub scopes-close : (around : Places) (tasks more : List Task) → more ≡ tasks ++ Close ∷ [] → scopes_of around (reverse more) ≡ scopes_of (drop 1 around) (reverse tasks)
scopes-close around tasks more e = ap (scopes_of around) (ap reverse e ∙ reverse-append tasks (Close ∷ []))

-- ---- how many nodes the trees before a place have

grown : (before : List TermTree) (n : TermNode) → HasRoom before n → sizes (grow before n) ≡ suc (sizes before)
grown before (Free x t) r = omega arith
grown before (Bound x) r = omega arith
grown before (Const c ts) r = omega arith
grown (a ∷ f ∷ before) (App i j) r = omega arith
grown (a ∷ []) (App i j) r = absurd (omega arith)
grown [] (App i j) r = absurd (omega arith)
grown (b ∷ before) (Lam x t i) r = omega arith
grown [] (Lam x t i) r = absurd (omega arith)

pub sizes-before : (nodes : List TermNode) (t : TermTree) (j : ℕ) → nodes ≡ term_nodes 0 t → j ≤ length nodes → sizes (forest [] (take j nodes)) ≡ j
sizes-before nodes t zero h le = refl
sizes-before nodes t (suc j) h le =
    let n : TermNode = get_or nodes j (Bound []) in
    let lt : j < length nodes = omega (arith, le) in
    let now : IsStep nodes j n = step nodes t j n h lt (get_or_default nodes j (Bound []) n lt) in
    let next : suc j ≡ j + 1 = omega arith in
    ap (λ k. sizes (forest [] (take k nodes))) next ∙ ap sizes now.next ∙ grown (forest [] (take j nodes)) n now.room ∙ ap suc (sizes-before nodes t j h (omega (arith, le)))

-- ---- the pass

-- what is still to be found of trees, the last one first, under their binders
abbrev pub found_in : List Places → List TermTree → List (Option Binder)
found_in [] ts = []
found_in (around ∷ later) [] = []
found_in (around ∷ later) (t ∷ before) = found_in later before ++ binders_in (sizes before) around t

-- What is known between two nodes: what is still to be found comes before what was found.
pub record IsFinding (t : TermTree) (trees : List TermTree) (pending : List Places) (found : List (Option Binder)) : Type 0 where
  pub all : binders_in 0 [] t ≡ found_in pending trees ++ found
  pub count : length pending ≡ length trees

pub at-end : (t : TermTree) (trees : List TermTree) (pending : List Places) → trees ≡ t ∷ [] → pending ≡ [] ∷ [] → IsFinding t trees pending []
at-end t trees pending e p = record {
  all = sym (append-nil (binders_in 0 [] t)) ∙ (λ i. found_in (sym p i) (sym e i) ++ []);
  count = (λ i. length (p i)) ∙ (λ i. length (sym e i));
}

pub at-start : (t : TermTree) (pending : List Places) (found : List (Option Binder)) → IsFinding t [] pending found → binders_in 0 [] t ≡ found
at-start t [] found h = h.all
at-start t (around ∷ later) found h = absurd (omega (arith, h.count))

leaf : (t u : TermTree) (before : List TermTree) (around : Places) (later : List Places) (found : List (Option Binder)) (b : Option Binder) → binders_in (sizes before) around u ≡ b ∷ [] → IsFinding t (u ∷ before) (around ∷ later) found → IsFinding t before later (b ∷ found)
leaf t u before around later found b one h = record {
  all = h.all ∙ ap (λ bs. (found_in later before ++ bs) ++ found) one ∙ append_assoc (found_in later before) (b ∷ []) found;
  count = omega (arith, h.count);
}

-- one node
past : (t : TermTree) (before : List TermTree) (n : TermNode) (at : ℕ) (around : Places) (later : List Places) (found : List (Option Binder)) → HasRoom before n → sizes before ≡ at
    → IsFinding t (grow before n) (around ∷ later) found → IsFinding t before (within at n around later) (binder_at around n ∷ found)
past t before (Free x ty) at around later found r s h = leaf t (free_variable x ty) before around later found None refl h
past t before (Bound x) at around later found r s h = leaf t (bound_name x) before around later found (binder_of x around) refl h
past t before (Const c ts) at around later found r s h = leaf t (constant c ts) before around later found None refl h
past t (a ∷ f ∷ before) (App i j) at around later found r s h = record {
  all = h.all ∙ regroup (found_in later before) (binders_in (sizes before) around f) (binders_in (sizes before + (under f + 1)) around a) found;
  count = omega (arith, h.count);
}
  where
    regroup : (xs ys zs ns : List (Option Binder)) → (xs ++ (ys ++ (zs ++ None ∷ []))) ++ ns ≡ ((xs ++ ys) ++ zs) ++ (None ∷ ns)
    regroup xs ys zs ns = simp append_assoc
past t (a ∷ []) (App i j) at around later found r s h = absurd (omega arith)
past t [] (App i j) at around later found r s h = absurd (omega arith)
past t (b ∷ before) (Lam x ty i) at around later found r s h = record {
  all = h.all ∙ regroup (found_in later before) (binders_in (sizes before) ((x, sizes before + (under b + 1)) ∷ around) b) found
      ∙ ap (λ k. (found_in later before ++ binders_in (sizes before) ((x, k) ∷ around) b) ++ (None ∷ found)) s;
  count = omega (arith, h.count);
}
  where
    regroup : (xs ys ns : List (Option Binder)) → (xs ++ (ys ++ None ∷ [])) ++ ns ≡ (xs ++ ys) ++ (None ∷ ns)
    regroup xs ys ns = simp append_assoc
past t [] (Lam x ty i) at around later found r s h = absurd (omega arith)

-- ---- at a place

pub some-pending : (t : TermTree) (nodes : List TermNode) (at j : ℕ) (n : TermNode) (pending : List Places) (found : List (Option Binder)) → nodes ≡ term_nodes 0 t → at ≡ j + 1 → j < length nodes → n ≡ get_or nodes j n
    → IsFinding t (forest [] (take at nodes)) pending found → 0 < length pending
some-pending t nodes at j n pending found h e lt is k =
    let now : IsStep nodes j n = step nodes t j n h lt is in
    let grew : forest [] (take at nodes) ≡ grow (forest [] (take j nodes)) n = ap (λ i. forest [] (take i nodes)) e ∙ now.next in
    by (forest [] (take j nodes)) n now.room (k.count ∙ ap length grew)
  where
    by : (before : List TermTree) (m : TermNode) → HasRoom before m → length pending ≡ length (grow before m) → 0 < length pending
    by before (Free x ty) r c = omega (arith, c)
    by before (Bound x) r c = omega (arith, c)
    by before (Const x ts) r c = omega (arith, c)
    by (a ∷ f ∷ before) (App i j) r c = omega (arith, c)
    by (a ∷ []) (App i j) r c = absurd (omega arith)
    by [] (App i j) r c = absurd (omega arith)
    by (b ∷ before) (Lam x ty i) r c = omega (arith, c)
    by [] (Lam x ty i) r c = absurd (omega arith)

-- what a visit answers: the parts of the node, and its binder
abbrev pub Visits : List Places → TermNode → ℕ → List Places → Option Binder → Type 0
Visits pending n at later b = (around : Places) (rest : List Places) → pending ≡ around ∷ rest → (later ≡ within at n around rest) × (b ≡ binder_at around n)

pub visited : (t : TermTree) (nodes : List TermNode) (at j : ℕ) (n : TermNode) (pending later : List Places) (b : Option Binder) (found more : List (Option Binder)) → nodes ≡ term_nodes 0 t → at ≡ j + 1 → j < length nodes → n ≡ get_or nodes j n
    → Visits pending n j later b → more ≡ found ++ b ∷ [] → IsFinding t (forest [] (take at nodes)) pending (reverse found) → IsFinding t (forest [] (take j nodes)) later (reverse more)
visited t nodes at j n [] later b found more h e lt is v m k = absurd (omega (arith, some-pending t nodes at j n [] (reverse found) h e lt is k))
visited t nodes at j n (around ∷ rest) later b found more h e lt is v m k =
    let now : IsStep nodes j n = step nodes t j n h lt is in
    let made = v around rest refl in
    let grew : IsFinding t (grow (forest [] (take j nodes)) n) (around ∷ rest) (reverse found) =
    subst (λ ts. IsFinding t ts (around ∷ rest) (reverse found)) (ap (λ i. forest [] (take i nodes)) e ∙ now.next) k in
    let done : IsFinding t (forest [] (take j nodes)) (within j n around rest) (binder_at around n ∷ reverse found) =
    past t (forest [] (take j nodes)) n j around rest (reverse found) now.room (sizes-before nodes t j h (omega (arith, lt))) grew in
    let last : binder_at around n ∷ reverse found ≡ reverse more = ap (λ c. c ∷ reverse found) (sym made.1) ∙ sym (ap reverse m ∙ reverse-append found (b ∷ [])) in
    subst (λ ps. IsFinding t (forest [] (take j nodes)) ps (reverse more)) (sym made.0) (subst (IsFinding t (forest [] (take j nodes)) (within j n around rest)) last done)
